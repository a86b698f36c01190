-- `old_case::case_of` meets its contract: each field passed test 16. Assumes nothing.
use Rattle.old_case.specs.laws.Usable.{usable}
use Rattle.old_case.proofs.case_of.Goals as goal

pub whole-requires : goal.whole-requires
whole-requires c =
    (usable c.args.o c.requires).mass

pub whole-requires-2 : goal.whole-requires-2
whole-requires-2 c =
    (usable c.args.o c.requires).mean

pub whole-requires-3 : goal.whole-requires-3
whole-requires-3 c =
    (usable c.args.o c.requires).stoichiometric

pub whole-requires-4 : goal.whole-requires-4
whole-requires-4 c =
    (usable c.args.o c.requires).heat

pub whole-requires-5 : goal.whole-requires-5
whole-requires-5 c =
    (usable c.args.o c.requires).distance

pub whole-requires-6 : goal.whole-requires-6
whole-requires-6 c =
    (usable c.args.o c.requires).body
