use Rattle.std.proofs.Common.{◌≡◌, ◌⊎◌, sym, subst, inr, length, arith}
use Rattle.link_io.specs.declared.why.Why.TheVariants.{Sink as Link}
use Rattle.rtrb.specs.Ring.{received}
use Rattle.rpc_shared.specs.session.Log.{HasPlaces}
use Rattle.rpc_crew.specs.Batches.{FailsAtLast, places_for}
use Rattle.rpc_crew.proofs.RingLemmas.{if_ok_map}
use Rattle.rpc_crew.proofs.WriterRounds.{err_out, if_err_from, ok_out, on_err_map, places_behind, round_cut, round_failed, round_last, round_made}
use Rattle.rpc_crew.proofs.writing.round.Goals as goal

pub returns-then-is_err-clause-fails : goal.returns-then-is_err-clause-fails
returns-then-is_err-clause-fails g c =
    let d = g.S.Store.holds c.args.store.now in
    round_cut (received c.args.ring.now) (received c.gather-behind.new.ring) c.gather-behind.new.batch c.gather-behind.result (g.O.Sink.written c.args.output.now) (g.O.Sink.written c.write_batch.new.output) d d
    c.args.log.now c.gather-behind.new.log c.write_batch.new.log c.write_batch.new.log c.args.done.now c.write_batch.new.done c.write_batch.new.done c.gather-behind.ensures.gathers
    (err_out c.write_batch.result (sym c.if-is_err.ensures.value) c.write_batch.ensures.part d)

pub make_behind-requires : goal.make_behind-requires
make_behind-requires g c =
    let next = c.gather-behind.result in
    record {
      place =
          ok_out c.write_batch.result (sym c.if-is_err.ensures.value) c.write_batch.ensures.places (places_for next 0)
          (subst (HasPlaces c.gather-behind.new.log) (places_behind next (length c.gather-behind.new.batch.framed)) c.gather-behind.ensures.gathers.places);
    }

pub returns-clause-makes : goal.returns-clause-makes
returns-clause-makes g c =
    let gathers = c.gather-behind.ensures.gathers in
    let well = sym c.if-is_err.ensures.value in
    let counted = ok_out c.write_batch.result well c.write_batch.ensures.counted in
    if_ok_map _ _ c.make_behind.result
    (λ step made.
    round_made (received c.args.ring.now) (received c.gather-behind.new.ring) c.gather-behind.new.batch c.gather-behind.result (g.O.Sink.written c.args.output.now) (g.O.Sink.written c.write_batch.new.output)
    (g.S.Store.holds c.args.store.now) (g.S.Store.holds c.make_behind.new.store) c.args.log.now c.gather-behind.new.log c.write_batch.new.log c.make_behind.new.log
    c.args.done.now c.write_batch.new.done c.make_behind.new.done gathers
    (ok_out c.write_batch.result well c.write_batch.ensures.written) (ok_out c.write_batch.result well c.write_batch.ensures.logged) counted step
    (made gathers.came gathers.behind (omega (arith, counted)))) c.make_behind.ensures.makes

pub returns-clause-fails : goal.returns-clause-fails
returns-clause-fails g c =
    let gathers = c.gather-behind.ensures.gathers in
    let well = sym c.if-is_err.ensures.value in
    on_err_map c.make_behind.result
    (λ fails.
    round_failed (received c.args.ring.now) (received c.gather-behind.new.ring) c.gather-behind.new.batch c.gather-behind.result (g.O.Sink.written c.args.output.now) (g.O.Sink.written c.write_batch.new.output)
    (g.S.Store.holds c.args.store.now) (g.S.Store.holds c.make_behind.new.store) c.args.log.now c.gather-behind.new.log c.write_batch.new.log c.make_behind.new.log
    c.args.done.now c.write_batch.new.done c.make_behind.new.done gathers
    (ok_out c.write_batch.result well c.write_batch.ensures.written) (ok_out c.write_batch.result well c.write_batch.ensures.logged) (ok_out c.write_batch.result well c.write_batch.ensures.counted)
    (fails gathers.came gathers.behind)) c.make_behind.ensures.fails

pub returns-clause-last : goal.returns-clause-last
returns-clause-last g c =
    let gathers = c.gather-behind.ensures.gathers in
    let well = sym c.if-is_err.ensures.value in
    let written = g.O.Sink.written in
    if_err_from (λ why. (why ≡ Link) ⊎ FailsAtLast (received c.args.ring.now) (received c.gather-behind.new.ring) (written c.args.output.now) (written c.write_batch.new.output) c.args.done.now c.make_behind.new.done)
    c.make_behind.result c.make_behind.ensures.fails
    (λ fails why.
    inr (round_last (received c.args.ring.now) (received c.gather-behind.new.ring) c.gather-behind.new.batch c.gather-behind.result (written c.args.output.now) (written c.write_batch.new.output)
    (g.S.Store.holds c.args.store.now) (g.S.Store.holds c.make_behind.new.store) c.args.log.now c.gather-behind.new.log c.write_batch.new.log c.make_behind.new.log
    c.args.done.now c.write_batch.new.done c.make_behind.new.done gathers
    (ok_out c.write_batch.result well c.write_batch.ensures.written) (ok_out c.write_batch.result well c.write_batch.ensures.logged) (ok_out c.write_batch.result well c.write_batch.ensures.counted)
    (fails gathers.came gathers.behind)))
