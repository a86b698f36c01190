use Rattle.linked.proofs.sheets.yakepuhi_sheet_totals.Goals as goal

pub returns-in-Err : goal.returns-in-Err
returns-in-Err c =
    let a = c.args in
    rw c.number.ensures (rw c.in-Err.is at (c.totals.ensures a.count.now a.greatest.now a.place.now))
