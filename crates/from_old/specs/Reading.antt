-- What tests 1, 2, 15 and 16 make of an old line.
use Rattle.std.specs.Prelude.{Result}
use Rattle.old_case.specs.declared.OldCase.{OldCase}
use Rattle.from_old.specs.declared.Refusal.{Refusal}

abbrev pub Reading : Type 0
Reading = Result OldCase Refusal
