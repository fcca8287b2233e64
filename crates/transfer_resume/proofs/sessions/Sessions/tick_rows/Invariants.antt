use Rattle.std.proofs.Common.{◌≡◌, ◌++◌, drop, map, flat_map}
use Rattle.transfer_resume.specs.Book.{row_by, row_says, spelled_all}
use Rattle.transfer_resume.specs.Ticks.{stage_ticks}
use Rattle.transfer_resume.proofs.sessions.Sessions.tick_rows.Given as goal

-- what was done so far, with the rows to come, is the whole
abbrev pub invariant-loop-row : goal.invariant-loop-row
invariant-loop-row l = record {
  rows : l.rows ++ map (row_by (stage_ticks l.self.service.side l.now)) (drop l.row-index l.row-items) ≡ map (row_by (stage_ticks l.self.service.side l.now)) l.row-items;
  outs : l.outs ++ spelled_all (flat_map (row_says (stage_ticks l.self.service.side l.now)) (drop l.row-index l.row-items)) ≡ l.initial.outs ++ spelled_all (flat_map (row_says (stage_ticks l.self.service.side l.now)) l.row-items);
}
