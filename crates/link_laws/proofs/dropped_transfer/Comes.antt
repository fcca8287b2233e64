-- A run comes to each pair that its transfer leads to in time.
use Rattle.std.proofs.Common.{ℕ, ◌+◌, ◌*◌, ◌≤◌, Bool, List, [], arith}
use Rattle.std.specs.List.{AllByRecursion}
use Rattle.transfer_base.specs.declared.limits.TheConstants.{TIMEOUT}
use Rattle.transfer_client.specs.Machine.{Rules}
use Rattle.transfer_resume.specs.Session.{Row}
use Rattle.transfer_laws.specs.losses.Drops.{LeadsTo, LossyPair, begun}
use Rattle.link_laws.specs.world.Turns.{Turns}
use Rattle.link_laws.specs.world.World.{Setup, Transfer, World}
use Rattle.link_laws.proofs.lossless_scripts.Walk.{turns_join}
use Rattle.link_laws.specs.lossless_transfer.Finishes.{Passes}
use Rattle.link_laws.specs.lossless_transfer.Shows.{Places, moment_at}
use Rattle.link_laws.proofs.lossless_transfer.Beginning.{CanBegin}
use Rattle.link_laws.proofs.lossless_transfer.Machines.{IsWrapped}
use Rattle.link_laws.proofs.plain_calls.Numbers.{numbered_grow}
use Rattle.link_laws.specs.dropped_transfer.Dropped.{loses}
use Rattle.link_laws.specs.dropped_transfer.Shows.{IsLostIn, ShowsLossy}
use Rattle.link_laws.specs.dropped_transfer.Survives.{CanEnd}
use Rattle.link_laws.proofs.dropped_transfer.Begin.{begins_so}
use Rattle.link_laws.proofs.dropped_transfer.Chain.{Come, follows}
use Rattle.link_laws.proofs.dropped_transfer.Numbers.{all_still_lost}
use Rattle.link_laws.proofs.dropped_transfer.TimeStep.{KeepsTime}

module _ {A : Type 0} (rules : Rules A) (wrap : A → Transfer) (P : ℕ → A → Type 0) (wrapped : IsWrapped rules wrap) (keeps : KeepsTime rules P) (k : Setup) (x : Places) (older : List Row) (big far : World) (t : A)
    (most : ℕ) (starts : CanEnd k x older big far (wrap t) most) (can : CanBegin rules (P (moment_at x)) (moment_at x) t) where
  abbrev lost : ℕ → Bool
  lost = loses k x.session far

  -- the pair that has begun
  abbrev pub w : LossyPair A
  w = begun x.service rules lost (moment_at x) x.service.time t

  pub comes : (n : ℕ) (last : LossyPair A) → LeadsTo x.service rules lost n w last → last.now ≤ moment_at x + TIMEOUT * most → Passes k big far (Come rules wrap k x big last)
  comes n last leads soon =
      let p : Passes k big far (λ next. ShowsLossy wrap k x older [] big next w) =
      begins_so rules wrap (P (moment_at x)) k x older starts.set wrapped (keeps.keeps (moment_at x)) t can big far starts.drops starts.begins starts.run in
      let q : Passes k p.mid far (Come rules wrap k x big last) =
      follows rules wrap P k x starts.set.only wrapped keeps big far last (omega (arith, soon, starts.early)) n p.mid (p.many, p.way) older w.pair.server w.pair.client w.pair.to_server [] w.lost w.pair.said x.service.time x.times x.server
      can.going leads
      (record { set = starts.set; stands = p.holds.stands; task = p.holds.task; fits = tt; holds = can.holds; lost_are = p.holds.lost })
      p.rest in
      let on : (count : ℕ) × Turns k count big q.mid = turns_join k p.many q.many big p.mid q.mid p.way q.way in
      record { mid = q.mid; many = on.0; way = on.1; rest = q.rest; holds = q.holds }

  -- what was lost on the way to such a pair was dropped in the run
  pub lost_in_run : (n : ℕ) (last : LossyPair A) → LeadsTo x.service rules lost n w last → last.now ≤ moment_at x + TIMEOUT * most → AllByRecursion (IsLostIn k x big far) last.lost
  lost_in_run n last leads soon =
      let there : Passes k big far (Come rules wrap k x big last) = comes n last leads soon in
      let grown = numbered_grow k there.rest.total there.mid far there.rest.turns in
      all_still_lost k x there.mid far grown.0 grown.1 big last.lost there.holds.lost_are
