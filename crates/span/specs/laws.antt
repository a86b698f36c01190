pub mod PointSpans
