-- The numbers and words of an old line's refusals, and the number of a verdict (request 3).
use Rattle.std.specs.Prelude.{ℕ, List, [], ◌∷◌}
use Rattle.std.proofs.Common.{lit<, lit≤}
use Rattle.refusals.specs.Told as tell
use Rattle.writable.specs.Refusals as unwritten
use Rattle.from_old.specs.declared.Refusal.{Refusal}
use Rattle.from_old.specs.declared.Refusal.TheVariants.{Unwritten, Tag, Double}
use Rattle.from_old.specs.Verdict.{Verdict}

abbrev pub number : Refusal → ℕ
number (Unwritten r) = unwritten.number r
number Tag = 15
number Double = 16

-- 0 for an accepted line, else the number of its refusal
abbrev pub code : Verdict → ℕ
code = tell.code number

-- tag, double
abbrev pub word : Refusal → List ℕ
word (Unwritten r) = unwritten.word r
word Tag = 116 ∷ 97 ∷ 103 ∷ []
word Double = 100 ∷ 111 ∷ 117 ∷ 98 ∷ 108 ∷ 101 ∷ []

pub told : tell.Tells number word
told = (
  elim [ Unwritten w ↦ unwritten.told.0 w | Tag ↦ lit< tt | Double ↦ lit< tt ],
  elim [ Unwritten w ↦ unwritten.told.1 w | Tag ↦ lit≤ tt | Double ↦ lit≤ tt ],
)
