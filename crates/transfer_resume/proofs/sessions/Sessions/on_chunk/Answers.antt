use Rattle.std.proofs.Common.{rules, ◌≡◌}
use Rattle.transfer_chunk.specs.Chunk.{lent_chunk}
use Rattle.transfer_resume.specs.Book.{spelled_all, chunk_step}
use Rattle.transfer_resume.proofs.LimitLaws.{chunk_outs_within}
use Rattle.transfer_resume.proofs.sessions.Sessions.on_chunk.Goals as goal

pub returns-clause-limits : goal.returns-clause-limits
returns-clause-limits c =
    let outs : c.take.new.outs ≡ spelled_all (chunk_step c.args.self.now (lent_chunk c.args.chunk.now)).outs = search rules in
    chunk_outs_within c.args.self.now (lent_chunk c.args.chunk.now) c.take.new.outs outs
