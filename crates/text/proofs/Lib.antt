mod LineEnds
mod Holds
mod Behind
mod Pieces
mod Endings
mod LineTaken
mod Feeding
mod Finishing
