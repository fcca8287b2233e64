-- A client opens a call, and its task speaks through it.
use Rattle.std.proofs.Common.{◌≡◌, ℕ, ◌<◌, Bool, true, false, not, List, [], ◌∷◌, ◌++◌, length, reverse, flat_map, Some, None, option_and_then, if◌then◌else◌, refl, ap, sym, ◌∙◌, subst, arith, length-append}
use Rattle.std.proofs.lemmas.Bool.{eq-eqb, ne_eqb}
use Rattle.std.proofs.lemmas.List.{append-nil}
use Rattle.std.proofs.lemmas.Option.{slice_get_within}
use Rattle.std.proofs.Math.Seq.{drop-length}
use Rattle.rpc_channel.specs.Rising.{has_id}
use Rattle.rpc_ids.specs.declared.status.Status.{Status}
use Rattle.rpc_ids.specs.declared.method.MethodRef.{MethodRef}
use Rattle.rpc_packet.specs.declared.owned.Packet.{Packet}
use Rattle.rpc_handlers.specs.declared.event.Memo.{Memo}
use Rattle.rpc_journal.specs.declared.entry.Entry.{Entry}
use Rattle.rpc_journal.specs.declared.entry.EntryKind.TheVariants.{Invoke}
use Rattle.rpc_journal.specs.declared.item.Item.{Item}
use Rattle.rpc_journal.specs.declared.setting.Setting.{Setting}
use Rattle.rpc_journal.specs.Calls.{call_count, calls, has_end, is_cancelled, last_call, live_call, same_name}
use Rattle.rpc_journal.specs.Choice.{NoneReady}
use Rattle.rpc_journal.specs.Effect.{Deed, Opening}
use Rattle.rpc_journal.specs.Entries.{invoke_effect}
use Rattle.rpc_journal.specs.History.{adding, entry_by, history}
use Rattle.rpc_journal.specs.Items.{items_sent}
use Rattle.rpc_journal.specs.Kinds.{is_empty}
use Rattle.rpc_journal.specs.Queues.{puts_since, starts_since}
use Rattle.rpc_journal.specs.Rows.{packet_item}
use Rattle.rpc_journal.specs.States.{finished_since, state_of}
use Rattle.rpc_journal.proofs.EndLemmas.{ended_known}
use Rattle.rpc_journal.proofs.EndedLemmas.{cancelled_ends}
use Rattle.rpc_journal.proofs.PlaceLemmas.{get_front}
use Rattle.rpc_journal.proofs.Push.{history-push}
use Rattle.rpc_schedule.specs.Schedule.{run_seat}
use Rattle.history_laws.specs.rounds.Streams.{HasStream, streams_in}
use Rattle.history_laws.proofs.rounds.PutLemmas.{named_so, no_number, own_name, uncompleted_beyond}
use Rattle.history_laws.proofs.rounds.RunLemmas.{none_left, none_ready}
use Rattle.history_laws.proofs.rounds.StreamLemmas.{plain_deed, plain-channels, plain_stream}
use Rattle.link_laws.specs.one_run.Speaking.{IsSpeaking, opening_by}
use Rattle.link_laws.proofs.one_run.Speaking.{opened_speaks}
use Rattle.link_laws.specs.world.Setup.{quiet_rule}
use Rattle.link_laws.specs.world.World.{Tasked}
use Rattle.link_laws.specs.world.Client.{mail_between, mail_of}
use Rattle.link_laws.specs.rounds.Polls.{CallsOpen, OpensCall}
use Rattle.link_laws.proofs.rounds.Polling.{polled_so, stays}
use Rattle.link_laws.proofs.rounds.Saying.{Speaks}

module _ (set : Setting) (h : List Entry) (method : MethodRef) (p : Packet) (m : Memo) (t : Tasked) (opens : OpensCall set h method p t) where
  abbrev ds : List Deed
  ds = history set h

  abbrev c : ℕ
  c = call_count ds

  abbrev o : Opening
  o = opening_by p method m

  abbrev says : List Item
  says = packet_item c p ∷ []

  abbrev opened : List Deed
  opened = plain_deed (entry_by run_seat (Invoke p m)) (Some o) [] says ∷ ds

  abbrev begun : List Entry
  begun = adding h run_seat (Invoke p m)

  deeds : history set begun ≡ opened
  deeds = history-push set h (entry_by run_seat (Invoke p m)) ∙ ap (λ x. record { entry = entry_by run_seat (Invoke p m); does = invoke_effect ds p m x } ∷ ds) opens.known

  speaks : IsSpeaking opened c o
  speaks = subst (λ x. IsSpeaking x c o) deeds (opened_speaks set h run_seat p m method opens.known opens.type)

  uncut : is_cancelled ds c ≡ false
  uncut = at (is_cancelled ds c) refl
    where
      at : (b : Bool) → is_cancelled ds c ≡ b → is_cancelled ds c ≡ false
      at false is = is
      at true is = absurd (omega (arith, ended_known set (reverse h) c (cancelled_ends set (reverse h) c opens.lawful.allowed is)))

  live : live_call opened p.name ≡ Some c
  live =
      ap (λ b. option_and_then (λ k. if has_end opened k then None else Some k) (if b then Some c else last_call ds p.name)) (own_name p.name)
      ∙ ap (λ (es : List Status). if not (is_empty es) then None else Some c) speaks.unended

  state : state_of quiet_rule set opened c ≡ Some m
  state = rw (eq-eqb c c refl) refl

  stream : HasStream quiet_rule set opened c o m
  stream = record {
    opened = speaks.there;
    live = live;
    known = opens.known;
    channel = ap (λ ids. has_id ids p.name.channel) (plain-channels ds (entry_by run_seat (Invoke p m)) (Some o) [] says set refl) ∙ opens.channel;
    hears = subst (λ role. streams_in role method.kind ≡ true) (sym opens.role) opens.down;
    unended = speaks.unended;
    uncancelled = uncut;
    uncompleted = uncompleted_beyond set (reverse h) c (omega arith);
    state = state;
  }

  other_name : (k : ℕ) (other : Opening) (memo : Memo) → HasStream quiet_rule set ds k other memo → same_name p.name other.name ≡ false
  other_name k other memo there = at (same_name p.name other.name) refl
    where
      at : (b : Bool) → same_name p.name other.name ≡ b → same_name p.name other.name ≡ false
      at false is = is
      at true is = absurd (no_number k (sym opens.fresh ∙ (ap (live_call ds) (named_so p.name other.name is) ∙ there.live)))

  other_stays : (k : ℕ) (other : Opening) (memo : Memo) → HasStream quiet_rule set ds k other memo → HasStream quiet_rule set opened k other memo
  other_stays k other memo stream =
      let there : k < call_count ds = slice_get_within (calls ds) k other stream.opened in
      plain_stream ds (entry_by run_seat (Invoke p m)) (Some o) [] says quiet_rule set k other memo memo stream (get_front (calls ds) (o ∷ []) k there)
      (other_name k other memo stream) refl refl refl (rw (ne_eqb c k (λ same. omega (arith, same, there))) stream.state)

  taken : (k : ℕ) → starts_since opened k ≡ length (puts_since opened k)
  taken k = opens.rest.taken k ∙ ap length (sym (append-nil (puts_since ds k)))

  pub none : NoneReady (history set begun)
  none = subst NoneReady (sym deeds) (λ k. none_ready opened k (none_left opened k (taken k)))

  pub stands : Speaks set opens.role c o m opens.up ds (history set begun) (items_sent ds ++ says)
  stands =
      subst (λ x. Speaks set opens.role c o m opens.up ds x (items_sent ds ++ says)) (sym deeds)
      (record {
        stream = stream;
        undone = speaks.undone;
        taken = taken;
        idle = opens.rest.idle;
        flushed = omega (arith, opens.rest.flushed, length-append (items_sent ds) says);
        unhalted = opens.rest.unhalted;
        sent = refl;
        others = λ k other memo apart there. other_stays k other memo there;
      })

pub calls_open : CallsOpen
calls_open set now h after t next method p m opens s =
    let begun : List Entry = adding h run_seat (Invoke p m) in
    let o : Opening = opening_by p method m in
    let nothing : mail_between set begun begun t.call ≡ [] = ap (flat_map mail_of) (drop-length (finished_since (history set begun) t.call)) in
    polled_so set now h begun begun after t next o m (packet_item t.call p ∷ []) [] (record { role = opens.role; speaks = opens.up })
    (subst (λ x. Speaks set opens.role x o m opens.up (history set h) (history set begun) (items_sent (history set h) ++ packet_item x p ∷ [])) (sym opens.call) (stands set h method p m t opens))
    s (stays set s.run_count begun s.ran (none set h method p m t opens) s.runs) nothing
