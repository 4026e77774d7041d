use Rattle.std.proofs.Common.{arith, length-take}
use Rattle.log_lines.specs.Text.{ending_line}
use Rattle.log_lines.proofs.Laws.{front_fits}
use Rattle.log_io.proofs.write_last.Goals as goal

pub slice_bounds-line-end : goal.slice_bounds-line-end
slice_bounds-line-end c = omega (arith, front_fits (ending_line c.args.ending) _ c.put_last-n.ensures)

pub slice_bounds-print-end : goal.slice_bounds-print-end
slice_bounds-print-end c = simp length-take (omega (arith, front_fits (ending_line c.args.ending) _ c.put_last-n.ensures))
