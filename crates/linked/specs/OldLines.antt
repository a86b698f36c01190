-- What the old form's entries for C promise: the verdict as one number, and every byte of the area as the verdict says (requests 3 and 11).
use Rattle.std.specs.Prelude.{ℕ, ◌≡◌, List, length}
use Rattle.from_old.specs.Refusals.{code}
use Rattle.from_old.specs.Tests.{line_verdict}
use Rattle.from_old.specs.Entry.{with_frame}
use Rattle.to_old.specs.Refusals as back
use Rattle.to_old.specs.Tests.{frame_verdict}
use Rattle.to_old.specs.Entry.{with_line}

pub record CameIn (line before : List ℕ) (n : ℕ) (after : List ℕ) : Type 0 where
  pub returned : n ≡ code (line_verdict line (length before))
  pub area : after ≡ with_frame (line_verdict line (length before)) before

pub record WentBack (frame before : List ℕ) (n : ℕ) (after : List ℕ) : Type 0 where
  pub returned : n ≡ back.code (frame_verdict frame (length before))
  pub area : after ≡ with_line (frame_verdict frame (length before)) before
