use Rattle.tables.specs.Decode.{grain_at}
use Rattle.answers.proofs.RowLaws.{first_grain_lem, shown_over}
use Rattle.answers.proofs.rows.show_one.Goals as goal

pub returns : goal.returns
returns c =
    let g = c.args.grains.now in
    rw (c.bits_of_float.ensures, c.bits_of_float-2.ensures, c.bits_of_float-3.ensures, c.bits_of_float-4.ensures, c.bits_of_float-5.ensures, c.bits_of_float-6.ensures)
    (shown_over c.args.bits.now c.read_grain-p.result (grain_at g) (c.read_grain-p.ensures (grain_at g) (first_grain_lem g c.requires.0)) c.requires.1)
