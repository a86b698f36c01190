-- The numbers and words of what is refused of frames that are stored and of stored bytes that are turned back (request 12).
use Rattle.std.specs.Prelude.{ℕ, List, [], ◌∷◌, Result}
use Rattle.std.proofs.Common.{lit<, lit≤}
use Rattle.refusals.specs.Told as tell
use Rattle.columns.specs.declared.Refusal.{Refusal}
use Rattle.columns.specs.declared.Refusal.TheVariants.{Columns, Space}
use Rattle.columns.specs.declared.Shortage.{Shortage}

abbrev pub number : Refusal → ℕ
number Columns = 20
number Space = 8

-- columns, space
abbrev pub word : Refusal → List ℕ
word Columns = 99 ∷ 111 ∷ 108 ∷ 117 ∷ 109 ∷ 110 ∷ 115 ∷ []
word Space = 115 ∷ 112 ∷ 97 ∷ 99 ∷ 101 ∷ []

pub told : tell.Tells number word
told = (elim [ Columns ↦ lit< tt | Space ↦ lit< tt ], elim [ Columns ↦ lit≤ tt | Space ↦ lit≤ tt ])

-- of storing there is 8 alone
abbrev pub shortage_number : Shortage → ℕ
shortage_number s = number Space

abbrev pub shortage_word : Shortage → List ℕ
shortage_word s = word Space

pub shortage_told : tell.Tells shortage_number shortage_word
shortage_told = (λ s. lit< tt, λ s. lit≤ tt)

-- 0 where bytes were written, else the number of the refusal
abbrev pub code : Result ℕ Refusal → ℕ
code = tell.code number

abbrev pub storing_code : Result ℕ Shortage → ℕ
storing_code = tell.code shortage_number
