-- Over a link that loses nothing all that was sent has arrived when a run ends.
use Rattle.std.proofs.Common.{◌≡◌, List, None, [], ◌∷◌, ◌++◌, drop, length, refl, ap, sym, ◌∙◌, subst, arith, length-append}
use Rattle.std.proofs.Math.Seq.{drop-append_seam}
use Rattle.std.proofs.lemmas.List.{append-nil}
use Rattle.std.proofs.lemmas.List.Concat.{flat_map-append}
use mathlib.Core.List.{IsPrefix}
use Rattle.rpc_ids.specs.declared.method.Role.TheVariants.{Server, Client}
use Rattle.rpc_packet.specs.declared.owned.Packet.{Packet}
use Rattle.rpc_journal.specs.declared.entry.Entry.{Entry}
use Rattle.rpc_journal.specs.declared.entry.EntryKind.TheVariants.{EndIn}
use Rattle.rpc_journal.specs.declared.item.Item.{Item}
use Rattle.rpc_journal.specs.declared.setting.Setting.{Setting}
use Rattle.rpc_journal.specs.History.{history}
use Rattle.rpc_journal.specs.Items.{arrivals, items_flushed, packet_of, packets_of}
use Rattle.rpc_journal.proofs.ItemLemmas.{flushed_begin}
use Rattle.rpc_schedule.specs.Schedule.{input_seat}
use Rattle.link_laws.specs.world.Setup.{setup_of}
use Rattle.link_laws.specs.world.Sound.{AreSendable, NoFlips}
use Rattle.link_laws.specs.world.Turns.{Ends}
use Rattle.link_laws.specs.world.World.{Setup, World, flushed_since, moment, packets_flushed, with_server}
use Rattle.link_laws.specs.one_run.InOrder.{HasAllArrived}
use Rattle.link_laws.proofs.one_run.Growing.{GoesOnWith, begins, client_opened_goes, opened_goes}
use Rattle.link_laws.proofs.one_run.Order.{nothing_is_lost}
use Rattle.link_laws.proofs.one_run.Parts.{client_keeps, server_keeps}
use Rattle.link_laws.proofs.rounds.Carrying.{all_numbered}
use Rattle.link_laws.proofs.transfers_fit.Sent.{runs_are_heard}
use Rattle.link_laws.specs.lossless_scripts.Lossless.{LosslessRunsArrive}
use Rattle.link_laws.specs.lossless_scripts.Scripts.{IsOpenScript}
use Rattle.link_laws.proofs.lossless_scripts.Walk.{same_numbered}

-- where no packet was flushed since, the same packets were flushed
same_flushed : (set : Setting) (before after : List Entry) → IsPrefix before after → flushed_since set before after ≡ [] → packets_flushed set after ≡ packets_flushed set before
same_flushed set before after begin none =
    let front : List Item = items_flushed (history set before) in
    let all : List Item = items_flushed (history set after) in
    let more = flushed_begin set before begin.0 in
    let whole : front ++ more.0 ≡ all = more.1 ∙ ap (λ h. items_flushed (history set h)) begin.1 in
    let rest : drop (length front) all ≡ more.0 = ap (drop (length front)) (sym whole) ∙ drop-append_seam front more.0 in
    let silent : packets_of more.0 ≡ [] = ap packets_of (sym rest) ∙ none in
    ap packets_of (sym whole)
    ∙ (flat_map-append (λ (item : Item). packet_of item.act) front more.0 ∙ (ap (λ ps. packets_of front ++ ps) silent ∙ append-nil (packets_of front)))

none_of : (ps : List Packet) → length ps ≡ 0 → ps ≡ []
none_of [] none = refl
none_of (p ∷ ps) none = absurd (omega (arith, none))

-- the end of a run in which no frame is numbered adds no arrival and sends nothing
module _ (k : Setup) (w now : World) (e : Ends k w now) (quiet : now.numbered ≡ w.numbered) where
  abbrev v : World
  v = with_server k w e.server

  v_client : v.client ≡ w.client
  v_client = server_keeps k (λ z. z.client) (λ z p. refl) w e.server

  now_server : now.server ≡ e.server
  now_server = ap (λ z. z.server) e.is ∙ (client_keeps k (λ z. z.server) (λ z p. refl) v e.client ∙ server_keeps k (λ z. z.server) (λ z p. refl) w e.server)

  now_client : now.client ≡ e.client
  now_client = ap (λ z. z.client) e.is ∙ client_keeps k (λ z. z.client) (λ z p. refl) v e.client

  server_goes : GoesOnWith w.server [] e.server
  server_goes = opened_goes k.rule k.server w.server input_seat EndIn e.server e.server_settles

  client_goes : GoesOnWith w.client [] e.client
  client_goes = client_opened_goes k.client (moment w) w.client input_seat EndIn None e.client None e.client_settles

  abbrev down : List Packet
  down = flushed_since k.server w.server e.server

  abbrev up : List Packet
  up = flushed_since k.client v.client e.client

  numbered : now.numbered ≡ (w.numbered ++ down) ++ up
  numbered =
      ap (λ (z : World). z.numbered) e.is
      ∙ (all_numbered k Client up (record v { client = e.client }) ∙ ap (λ ps. ps ++ up) (all_numbered k Server down (record w { server = e.server })))

  none_down : down ≡ []
  none_down = none_of down (omega (arith, ap length (sym quiet ∙ numbered), length-append (w.numbered ++ down) up, length-append w.numbered down))

  none_up : up ≡ []
  none_up = none_of up (omega (arith, ap length (sym quiet ∙ numbered), length-append (w.numbered ++ down) up, length-append w.numbered down))

  still_arrived : HasAllArrived k w → HasAllArrived k now
  still_arrived before = record {
    server =
        ap arrivals now_server
        ∙ (server_goes.arrived
        ∙ (append-nil (arrivals w.server)
        ∙ (before.server ∙ sym (ap (packets_flushed k.client) now_client
        ∙ same_flushed k.client w.client e.client (begins w.client [] e.client client_goes) (ap (λ h. flushed_since k.client h e.client) (sym v_client) ∙ none_up)))));
    client =
        ap arrivals now_client
        ∙ (client_goes.arrived
        ∙ (append-nil (arrivals w.client)
        ∙ (before.client ∙ sym (ap (packets_flushed k.server) now_server ∙ same_flushed k.server w.server e.server (begins w.server [] e.server server_goes) none_down))));
  }

pub lossless_runs_arrive : LosslessRunsArrive
lossless_runs_arrive s now is run server client =
    let k : Setup = setup_of s in
    let o : IsOpenScript s = is.script in
    let calm : NoFlips s.losses = subst NoFlips (sym is.losses) tt in
    let sendable : AreSendable k now = runs_are_heard k s.commands now refl refl calm o.script.few run server client in
    still_arrived k run.before now run.ends (same_numbered s o calm now run server client) (nothing_is_lost k s.commands now is.losses run sendable)
