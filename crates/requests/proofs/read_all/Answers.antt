-- `requests::read_all` meets its contract: what the input has lost stands in the room up to `done`. Assumes nothing.
use Rattle.std.proofs.Common.{◌≡◌, ℕ, ◌+◌, ◌-◌, ◌≤◌, List, ◌++◌, length, take, drop, ap, ◌∙◌, arith, length-append, length-take-le}
use Rattle.std.proofs.Math.Seq.{take-append-add}
use Rattle.std.proofs.lemmas.List.{take-append-le}
use Rattle.std.proofs.KnownBytes.{Consumes-trans}
use borrow.Rule.Slice.PartMut.{put_mid}
use Rattle.requests.proofs.read_all.Goals as goal

-- the room up to what a read has put behind the first d
first_of : (d n k : ℕ) (room put : List ℕ) → d ≤ length room → n ≤ length put → take (d + n) (put_mid d k room put) ≡ take d room ++ take n put
first_of d n k room put h m =
    let long = length-take-le d room h in
    let e = take-append-add (take d room) (put ++ drop k (drop d room)) n in
    rw long at e ∙ ap (λ (l : List ℕ). take d room ++ l) (take-append-le n put (drop k (drop d room)) m)

long_enough : (d n k : ℕ) (room put : List ℕ) → d ≤ length room → n ≤ length put → d + n ≤ length (put_mid d k room put)
long_enough d n k room put h m =
    let long = length-take-le d room h in
    let e = length-append (take d room) (put ++ drop k (drop d room)) in
    let e' = length-append put (drop k (drop d room)) in
    omega arith

pub loop-done-preserved : goal.loop-done-preserved
loop-done-preserved g c =
    let i = c.loop-done.invariant in
    let b = c.in-Ok.ensures.bound.0 in
    let e = first_of c.loop-done.done c.in-Ok.n (length c.loop-done.room - c.loop-done.done) c.loop-done.room c.read.new.buf i.0 b in
    (long_enough c.loop-done.done _ _ c.loop-done.room _ i.0 b, rw e (Consumes-trans _ _ _ _ _ i.1 c.in-Ok.ensures.bytes.0))
