-- Both ends are at rest between the turns of a run.
use Rattle.std.proofs.Common.{◌≡◌, ℕ, zero, suc, ◌<◌, ◌≤◌, Bool, true, false, not, ◌&&◌, ◌||◌, List, [], ◌∷◌, ◌++◌, codes, length, map, min, Option, Some, None, is_some, if◌then◌else◌, refl, ap, sym, ◌∙◌, subst, inl, inr, arith, length-append}
use Rattle.std.specs.List.{AllByRecursion}
use Rattle.std.proofs.lemmas.List.{append-nil}
use Rattle.link_io.specs.Resources.{found}
use Rattle.link_script.specs.declared.command.Command.{Command}
use Rattle.link_script.specs.declared.command.Command.TheVariants.{Read, Write, Echo, Count, Sum, Chat, Close}
use Rattle.rpc_channel.specs.Rising.{has_id}
use Rattle.rpc_ids.specs.Names.{name_id}
use Rattle.rpc_ids.specs.Status.{status_of}
use Rattle.rpc_ids.specs.declared.method.MethodRef.{MethodRef}
use Rattle.rpc_ids.specs.declared.method.Role.{Role}
use Rattle.rpc_ids.specs.declared.method.Role.TheVariants.{Server, Client}
use Rattle.rpc_packet.specs.declared.call_name.CallName.{CallName}
use Rattle.rpc_packet.specs.declared.owned.Packet.{Packet}
use Rattle.rpc_packet.specs.declared.packet_type.PacketType.{PacketType}
use Rattle.rpc_packet.specs.declared.packet_type.PacketType.TheVariants.{Request, Response, ClientStream, ClientError, ServerError, ServerStream, Completion}
use Rattle.rpc_handlers.specs.declared.answer.Out.TheVariants.{Say as Message}
use Rattle.rpc_handlers.specs.HandlerRule.{HandlerRule, empty_memo}
use Rattle.rpc_journal.specs.declared.entry.Entry.{Entry}
use Rattle.rpc_journal.specs.declared.entry.EntryKind.{EntryKind}
use Rattle.rpc_journal.specs.declared.entry.EntryKind.TheVariants.{Arrive, Invoke, Say, Done, Start, Finish, Replace, Cancel, Tick, Flush, EndIn, Halt, Close as Closing}
use Rattle.rpc_journal.specs.declared.item.Item.{Item}
use Rattle.rpc_journal.specs.declared.setting.Setting.{Setting}
use Rattle.rpc_journal.specs.Calls.{call_at, call_count, has_end, live_call, runner_of}
use Rattle.rpc_journal.specs.ClientTable.{call_row, live_row, no_call_row}
use Rattle.rpc_journal.specs.Effect.{Deed, Opening}
use Rattle.rpc_journal.specs.Entries.{arrive_row, cancel_effect, effect_of, invoke_effect, row_by, with_call}
use Rattle.rpc_journal.specs.History.{adding, deeds_with, entry_by, history}
use Rattle.rpc_journal.specs.Items.{halt_reason, items_sent, items_waiting}
use Rattle.rpc_journal.specs.Kinds.{is_okay, is_unary, streams_down, streams_up}
use Rattle.rpc_journal.specs.Lawful.{IsLawful}
use Rattle.rpc_journal.specs.Queues.{is_completed, puts_since, starts_since}
use Rattle.rpc_journal.specs.Rows.{Row, channels_in, method_named, says_item}
use Rattle.rpc_journal.specs.ServerTable.{known_row, method_row, unknown_row}
use Rattle.rpc_journal.proofs.Push.{beginning_is_lawful, history-push}
use Rattle.rpc_schedule.specs.Schedule.{Settles, flush_seat, input_seat, run_seat}
use Rattle.demo_services.specs.Methods.{transfer_id}
use Rattle.transfer_client.specs.Read.{new_download}
use Rattle.transfer_client.specs.Write.{new_upload}
use Rattle.history_laws.specs.rounds.Streams.{IsAtRest}
use Rattle.history_laws.proofs.rounds.RestLemmas.{settled_is_at_rest}
use Rattle.link_laws.specs.world.Client.{ClientTakes}
use Rattle.link_laws.specs.world.Lines.{finished}
use Rattle.link_laws.specs.world.Sound.{NoFlips}
use Rattle.link_laws.specs.world.Starts.{Started, all_added, left_length, live_transfers, next_name, request, starts, starts_write, transfer_by, Asks, Closes, StartTurn, closed_by, with_command, ended_by_close}
use Rattle.link_laws.specs.world.Turns.{Cancels, ClientHears, ServerHears, TimePasses, Turn, TurnOf, Turns, kind_by, later, with_frame_at_client, with_frame_at_server}
use Rattle.link_laws.specs.world.Hearing.{ServerTakes}
use Rattle.link_laws.specs.world.World.{task_of, task_under, with_task, Setup, Tasked, Transfer, Under, World, calling, client_deeds, client_store, closing, first_world, lacking, moment, reads, transferring, with_client, with_server, writes, server_deeds}
use Rattle.link_laws.proofs.one_run.Growing.{begins, client_takes_goes, server_takes_goes}
use Rattle.link_laws.proofs.one_run.Parts.{GoesOn, client_keeps, finished_client, finished_server, server_keeps}
use Rattle.link_laws.proofs.one_run.Ways.{turns_go_on}
use Rattle.link_laws.specs.plain_calls.Rests.{EndsRest}
use Rattle.link_laws.proofs.plain_calls.ClientRest.{CanWork, client_rests}

-- AN ARRIVAL SAYS NO MORE THAN ONE ITEM
module _ (p : Packet) (ds : List Deed) where
  abbrev SaysFew : Row → Type 0
  SaysFew row = length row.does.says ≤ 1

  none : 0 ≤ 1
  none = omega arith

  one : 1 ≤ 1
  one = omega arith

  if_few : (b : Bool) (x y : Row) → SaysFew x → SaysFew y → SaysFew (if b then x else y)
  if_few true x y first second = first
  if_few false x y first second = second

  unknown_few : (ptype : PacketType) (s : _) → SaysFew (unknown_row ptype p s)
  unknown_few Request s = one
  unknown_few Response s = one
  unknown_few ClientStream s = one
  unknown_few ClientError s = none
  unknown_few ServerError s = one
  unknown_few ServerStream s = one
  unknown_few Completion s = one

  known_few : (ptype : PacketType) (m : MethodRef) (l : Option ℕ) → SaysFew (known_row ptype p m ds l)
  known_few Request m None = none
  known_few Request m (Some c) = none
  known_few Response m l = none
  known_few ClientStream m None = one
  known_few ClientStream m (Some c) = if_few (not (streams_up m.kind)) _ _ one (if_few (is_completed ds c) _ _ one none)
  known_few ClientError m None = none
  known_few ClientError m (Some c) = none
  known_few ServerError m l = none
  known_few ServerStream m l = none
  known_few Completion m None = one
  known_few Completion m (Some c) = if_few (is_unary m.kind || is_completed ds c) _ _ none none

  method_few : (o : Option MethodRef) → SaysFew (method_row p ds o)
  method_few None = unknown_few p.ptype _
  method_few (Some m) = known_few p.ptype m (live_call ds p.name)

  live_few : (ptype : PacketType) (m : MethodRef) (c : ℕ) → SaysFew (live_row ptype p m c)
  live_few Request m c = none
  live_few Response m c = if_few (is_okay (status_of p.status) && not (streams_down m.kind)) _ _ none none
  live_few ClientStream m c = none
  live_few ClientError m c = none
  live_few ServerError m c = none
  live_few ServerStream m c = if_few (streams_down m.kind) _ _ none one
  live_few Completion m c = none

  no_call_few : (ptype : PacketType) → SaysFew (no_call_row ptype p)
  no_call_few Request = none
  no_call_few Response = none
  no_call_few ClientStream = none
  no_call_few ClientError = none
  no_call_few ServerError = none
  no_call_few ServerStream = one
  no_call_few Completion = none

  call_few : (o : Option MethodRef) (l : Option ℕ) → SaysFew (call_row p o l)
  call_few None l = no_call_few p.ptype
  call_few (Some m) None = no_call_few p.ptype
  call_few (Some m) (Some c) = live_few p.ptype m c

  row_few : (set : Setting) (role : Role) → SaysFew (row_by role set ds p)
  row_few set Server = if_few (has_id (channels_in set ds) p.name.channel) _ _ (method_few (method_named set p.name)) (unknown_few p.ptype _)
  row_few set Client = if_few (has_id (channels_in set ds) p.name.channel) _ _ (call_few (method_named set p.name) (live_call ds p.name)) none

  pub arrive_few : (set : Setting) → SaysFew (arrive_row set ds p)
  unfolding arrive_row
  arrive_few set = row_few set set.role

pub cancel_few : (set : Setting) (ds : List Deed) (c : ℕ) (o : Option Opening) → length (cancel_effect set ds c o).says ≤ 2
cancel_few set ds c None = omega arith
cancel_few set ds c (Some o) = at (has_end ds c) (is_some (runner_of ds c)) _ _
  where
    at : (a b : Bool) (x y : Item) → length ((if a then [] else x ∷ []) ++ (if b then [] else y ∷ [])) ≤ 2
    at true true x y = omega arith
    at true false x y = omega arith
    at false true x y = omega arith
    at false false x y = omega arith

-- AN ENTRY THAT BEGINS NO RUN AND ENDS NONE
abbrev IsInput : EntryKind → Type 0
IsInput (Arrive p) = Unit {0}
IsInput (Cancel c) = Unit {0}
IsInput (Tick t) = Unit {0}
IsInput (Closing channel) = Unit {0}
IsInput _ = ⊥

module _ (set : Setting) where
  input_idle : (ds : List Deed) (seat : ℕ) (kind : EntryKind) → IsInput kind → (c : ℕ) → runner_of (deeds_with set ds (entry_by seat kind)) c ≡ runner_of ds c
  input_idle ds seat (Arrive p) is c = refl
  input_idle ds seat (Cancel k) is c = refl
  input_idle ds seat (Tick t) is c = refl
  input_idle ds seat (Closing channel) is c = refl
  input_idle ds seat (Invoke p m) is c = absurd is
  input_idle ds seat (Say k out) is c = absurd is
  input_idle ds seat (Done k) is c = absurd is
  input_idle ds seat (Start k) is c = absurd is
  input_idle ds seat (Finish k a) is c = absurd is
  input_idle ds seat (Replace k m) is c = absurd is
  input_idle ds seat Flush is c = absurd is
  input_idle ds seat EndIn is c = absurd is
  input_idle ds seat (Halt why) is c = absurd is

  input_unhalted : (ds : List Deed) (seat : ℕ) (kind : EntryKind) → IsInput kind → halt_reason (deeds_with set ds (entry_by seat kind)) ≡ halt_reason ds
  input_unhalted ds seat (Arrive p) is = refl
  input_unhalted ds seat (Cancel k) is = refl
  input_unhalted ds seat (Tick t) is = refl
  input_unhalted ds seat (Closing channel) is = refl
  input_unhalted ds seat (Invoke p m) is = absurd is
  input_unhalted ds seat (Say k out) is = absurd is
  input_unhalted ds seat (Done k) is = absurd is
  input_unhalted ds seat (Start k) is = absurd is
  input_unhalted ds seat (Finish k a) is = absurd is
  input_unhalted ds seat (Replace k m) is = absurd is
  input_unhalted ds seat Flush is = absurd is
  input_unhalted ds seat EndIn is = absurd is
  input_unhalted ds seat (Halt why) is = absurd is

  -- AT A SERVER
  module _ (rule : HandlerRule) where
    pub opened_rests : (h : List Entry) (seat : ℕ) (kind : EntryKind) (after : List Entry) → IsInput kind → IsAtRest (history set h) → Settles rule set (adding h seat kind) after
        → IsLawful set after → IsAtRest (history set after)
    opened_rests h seat kind after is rest settles lawful =
        settled_is_at_rest rule set (adding h seat kind) after
        (λ c. ap (λ ds. runner_of ds c) (history-push set h (entry_by seat kind)) ∙ (input_idle (history set h) seat kind is c ∙ rest.idle c))
        (ap halt_reason (history-push set h (entry_by seat kind)) ∙ (input_unhalted (history set h) seat kind is ∙ rest.unhalted))
        settles lawful

    pub server_takes_rest : (ps : List Packet) (h after : List Entry) → ServerTakes rule set ps h after → IsLawful set after → IsAtRest (history set h) → IsAtRest (history set after)
    server_takes_rest [] h after same lawful rest = subst (λ l. IsAtRest (history set l)) (sym same) rest
    server_takes_rest (p ∷ ps) h after takes lawful rest =
        let mid : IsLawful set takes.0 = beginning_is_lawful set takes.0 after (begins takes.0 ps after (server_takes_goes rule set ps takes.0 after takes.2)) lawful in
        server_takes_rest ps takes.0 after takes.2 lawful (opened_rests h input_seat (Arrive p) takes.0 tt rest takes.1 mid)

  -- AT A CLIENT
  few_waiting : (ds : List Deed) (seat : ℕ) (kind : EntryKind) → IsInput kind → IsAtRest ds → length (effect_of set ds kind).says ≤ 2 → CanWork set (deeds_with set ds (entry_by seat kind))
  few_waiting ds seat kind is rest few = record {
    idle = λ c. input_idle ds seat kind is c ∙ rest.idle c;
    unhalted = input_unhalted ds seat kind is ∙ rest.unhalted;
    room = inr (waiting kind is few);
  }
    where
      waiting : (kind : EntryKind) → IsInput kind → length (effect_of set ds kind).says ≤ 2 → items_waiting (deeds_with set ds (entry_by seat kind)) < 65536
      waiting (Arrive p) is few = omega (arith, few, rest.flushed, length-append (items_sent ds) (effect_of set ds (Arrive p)).says)
      waiting (Cancel k) is few = omega (arith, few, rest.flushed, length-append (items_sent ds) (effect_of set ds (Cancel k)).says)
      waiting (Tick t) is few = omega (arith, few, rest.flushed, length-append (items_sent ds) (effect_of set ds (Tick t)).says)
      waiting (Closing channel) is few = omega (arith, few, rest.flushed, length-append (items_sent ds) (effect_of set ds (Closing channel)).says)
      waiting (Invoke p m) is few = absurd is
      waiting (Say k out) is few = absurd is
      waiting (Done k) is few = absurd is
      waiting (Start k) is few = absurd is
      waiting (Finish k a) is few = absurd is
      waiting (Replace k m) is few = absurd is
      waiting Flush is few = absurd is
      waiting EndIn is few = absurd is
      waiting (Halt why) is few = absurd is

  pub input_works : (h : List Entry) (seat : ℕ) (kind : EntryKind) → IsInput kind → IsAtRest (history set h) → length (effect_of set (history set h) kind).says ≤ 2
      → CanWork set (history set (adding h seat kind))
  input_works h seat kind is rest few = subst (CanWork set) (sym (history-push set h (entry_by seat kind))) (few_waiting (history set h) seat kind is rest few)

  pub client_takes_rest : (now : ℕ) (ps : List Packet) (h : List Entry) (task : Option Tasked) (after : List Entry) (next : Option Tasked) → ClientTakes set now ps h task after next
      → IsLawful set after → IsAtRest (history set h) → IsAtRest (history set after)
  client_takes_rest now [] h task after next takes lawful rest = subst (λ l. IsAtRest (history set l)) (sym takes.0) rest
  client_takes_rest now (p ∷ ps) h task after next takes lawful rest =
      let mid : IsLawful set takes.0 = beginning_is_lawful set takes.0 after (begins takes.0 ps after (client_takes_goes set now ps takes.0 takes.1 after next takes.3)) lawful in
      let can : CanWork set (history set (adding h input_seat (Arrive p))) = input_works h input_seat (Arrive p) tt rest (omega (arith, arrive_few p (history set h) set)) in
      client_takes_rest now ps takes.0 takes.1 after next takes.3 lawful (client_rests set now (adding h input_seat (Arrive p)) task takes.0 takes.1 takes.2 can mid)

  -- what a command adds as it starts
  abbrev pub IsAsking : EntryKind → Type 0
  IsAsking (Invoke p m) = Unit {0}
  IsAsking (Say c out) = Unit {0}
  IsAsking (Done c) = Unit {0}
  IsAsking _ = ⊥

  pub record HasTaken (ds : List Deed) : Type 0 where
    pub taken : (c : ℕ) → starts_since ds c ≡ length (puts_since ds c)
    pub idle : (c : ℕ) → runner_of ds c ≡ None
    pub unhalted : halt_reason ds ≡ None

  with_taken : (ds : List Deed) (c : ℕ) (seat : ℕ) (out : _) (item : Opening → Item) (o : Option Opening) → HasTaken ds → HasTaken (record { entry = entry_by seat (Say c out); does = with_call o (λ x. says_item (item x)) } ∷ ds)
  with_taken ds c seat out item None x = record { taken = λ k. x.taken k ∙ ap length (sym (append-nil (puts_since ds k))); idle = x.idle; unhalted = x.unhalted }
  with_taken ds c seat out item (Some o) x = record { taken = λ k. x.taken k ∙ ap length (sym (append-nil (puts_since ds k))); idle = x.idle; unhalted = x.unhalted }

  done_taken : (ds : List Deed) (c : ℕ) (seat : ℕ) (item : Opening → Item) (o : Option Opening) → HasTaken ds → HasTaken (record { entry = entry_by seat (Done c); does = with_call o (λ x. says_item (item x)) } ∷ ds)
  done_taken ds c seat item None x = record { taken = λ k. x.taken k ∙ ap length (sym (append-nil (puts_since ds k))); idle = x.idle; unhalted = x.unhalted }
  done_taken ds c seat item (Some o) x = record { taken = λ k. x.taken k ∙ ap length (sym (append-nil (puts_since ds k))); idle = x.idle; unhalted = x.unhalted }

  invoke_taken : (ds : List Deed) (seat : ℕ) (p : Packet) (m : _) (o : Option MethodRef) → HasTaken ds → HasTaken (record { entry = entry_by seat (Invoke p m); does = invoke_effect ds p m o } ∷ ds)
  invoke_taken ds seat p m None x = record { taken = λ k. x.taken k ∙ ap length (sym (append-nil (puts_since ds k))); idle = x.idle; unhalted = x.unhalted }
  invoke_taken ds seat p m (Some method) x = record { taken = λ k. x.taken k ∙ ap length (sym (append-nil (puts_since ds k))); idle = x.idle; unhalted = x.unhalted }

  asked_taken : (ds : List Deed) (seat : ℕ) (kind : EntryKind) → IsAsking kind → HasTaken ds → HasTaken (deeds_with set ds (entry_by seat kind))
  asked_taken ds seat (Invoke p m) is x = invoke_taken ds seat p m (method_named set p.name) x
  asked_taken ds seat (Say c out) is x = with_taken ds c seat out _ (call_at ds c) x
  asked_taken ds seat (Done c) is x = done_taken ds c seat _ (call_at ds c) x
  asked_taken ds seat (Arrive p) is x = absurd is
  asked_taken ds seat (Start c) is x = absurd is
  asked_taken ds seat (Finish c a) is x = absurd is
  asked_taken ds seat (Replace c m) is x = absurd is
  asked_taken ds seat (Cancel c) is x = absurd is
  asked_taken ds seat (Tick t) is x = absurd is
  asked_taken ds seat Flush is x = absurd is
  asked_taken ds seat EndIn is x = absurd is
  asked_taken ds seat (Halt why) is x = absurd is
  asked_taken ds seat (Closing channel) is x = absurd is

  pub all_taken : (kinds : List EntryKind) (h : List Entry) → AllByRecursion IsAsking kinds → HasTaken (history set h) → HasTaken (history set (all_added kinds h))
  all_taken [] h are x = x
  all_taken (kind ∷ kinds) h are x =
      all_taken kinds (adding h run_seat kind) are.1 (subst HasTaken (sym (history-push set h (entry_by run_seat kind))) (asked_taken (history set h) run_seat kind are.0 x))

  messages_ask : (c : ℕ) (bytes : List ℕ) → AllByRecursion IsAsking (map (λ byte. Say c (Message (byte ∷ []))) bytes ++ Done c ∷ [])
  messages_ask c [] = (tt, tt)
  messages_ask c (byte ∷ bytes) = (tt, messages_ask c bytes)

  transfer_asks : (w : World) (live : List ℕ) (name : CallName) (next : ℕ) (t : Transfer) → AllByRecursion IsAsking (transfer_by w live (Invoke (request name []) empty_memo) next t).adds
  transfer_asks w [] name next t = (tt, tt)
  transfer_asks w (c ∷ cs) name next t = tt

  pub starts_ask : (k : Setup) (w : World) (command : Command) → AllByRecursion IsAsking (starts k w command).adds
  starts_ask k w (Read resource offset) =
      let ds = client_deeds k w in
      transfer_asks w (live_transfers (name_id (codes "Read")) ds) (next_name transfer_id (name_id (codes "Read")) ds) (call_count ds)
      (reads (new_download resource (min offset (left_length k w resource)) k.window k.chunk))
  starts_ask k w (Write resource offset) = by_bytes (found resource (client_store k w).full)
    where
      by_bytes : (o : Option (List ℕ)) → AllByRecursion IsAsking (starts_write k w resource offset o).adds
      by_bytes None = tt
      by_bytes (Some bytes) =
          let ds = client_deeds k w in
          transfer_asks w (live_transfers (name_id (codes "Write")) ds) (next_name transfer_id (name_id (codes "Write")) ds) (call_count ds)
          (writes (new_upload resource bytes (min offset (length bytes))))
  starts_ask k w (Echo bytes) = (tt, tt)
  starts_ask k w (Count n) = (tt, tt)
  starts_ask k w (Sum bytes) = (tt, messages_ask (call_count (client_deeds k w)) bytes)
  starts_ask k w (Chat bytes) = (tt, messages_ask (call_count (client_deeds k w)) bytes)
  starts_ask k w (Close channel) = tt

  pub asked_works : (kinds : List EntryKind) (h : List Entry) → AllByRecursion IsAsking kinds → IsAtRest (history set h) → CanWork set (history set (all_added kinds h))
  asked_works kinds h are rest =
      let x : HasTaken (history set (all_added kinds h)) = all_taken kinds h are (record { taken = rest.taken; idle = rest.idle; unhalted = rest.unhalted }) in
      record { idle = x.idle; unhalted = x.unhalted; room = inl x.taken }

-- a table to which nothing has come
pub nothing_yet : (set : Setting) → IsAtRest (history set [])
nothing_yet set = record { taken = λ c. refl; idle = λ c. refl; flushed = refl; unhalted = refl }

-- A TURN
module _ (k : Setup) where
  -- both ends at rest, by their histories
  record Rest (at_server at_client : List Entry) : Type 0 where
    server : IsAtRest (history k.server at_server)
    client : IsAtRest (history k.client at_client)

  record Lawful (at_server at_client : List Entry) : Type 0 where
    server : IsLawful k.server at_server
    client : IsLawful k.client at_client

  abbrev RestOf : World → Type 0
  RestOf w = Rest w.server w.client

  abbrev LawfulOf : World → Type 0
  LawfulOf w = Lawful w.server w.client

  -- the server came to these entries
  server_worked : (v : World) (after : List Entry) (now : World) → now ≡ finished k (with_server k v after) → LawfulOf now
      → (IsLawful k.server after → IsAtRest (history k.server after)) → IsAtRest (history k.client v.client) → RestOf now
  server_worked v after now is lawful rests client =
      let server_is : now.server ≡ after = ap (λ x. x.server) is ∙ (finished_server k (with_server k v after) ∙ server_keeps k (λ x. x.server) (λ x p. refl) v after) in
      let client_is : now.client ≡ v.client = ap (λ x. x.client) is ∙ (finished_client k (with_server k v after) ∙ server_keeps k (λ x. x.client) (λ x p. refl) v after) in
      record {
        server = subst (λ h. IsAtRest (history k.server h)) (sym server_is) (rests (subst (IsLawful k.server) server_is lawful.server));
        client = subst (λ h. IsAtRest (history k.client h)) (sym client_is) client;
      }

  client_worked : (v : World) (after : List Entry) (now : World) → now ≡ finished k (with_client k v after) → LawfulOf now
      → (IsLawful k.client after → IsAtRest (history k.client after)) → IsAtRest (history k.server v.server) → RestOf now
  client_worked v after now is lawful rests server =
      let client_is : now.client ≡ after = ap (λ x. x.client) is ∙ (finished_client k (with_client k v after) ∙ client_keeps k (λ x. x.client) (λ x p. refl) v after) in
      let server_is : now.server ≡ v.server = ap (λ x. x.server) is ∙ (finished_server k (with_client k v after) ∙ client_keeps k (λ x. x.server) (λ x p. refl) v after) in
      record {
        client = subst (λ h. IsAtRest (history k.client h)) (sym client_is) (rests (subst (IsLawful k.client) client_is lawful.client));
        server = subst (λ h. IsAtRest (history k.server h)) (sym server_is) server;
      }

  server_hears : (w now : World) (frame : List ℕ) (rest : List (List ℕ)) → ServerHears k w frame rest now → LawfulOf now → RestOf w → RestOf now
  server_hears w now frame rest t lawful x =
      server_worked (with_frame_at_server w frame rest) t.after now t.is lawful (λ fits. server_takes_rest k.server k.rule t.hears.packets w.server t.after t.hears.holds fits x.server) x.client

  client_hears : (w now : World) (frame : List ℕ) (rest : List (List ℕ)) → ClientHears k w frame rest now → LawfulOf now → RestOf w → RestOf now
  client_hears w now frame rest t lawful x =
      client_worked (with_task t.task (with_frame_at_client w frame rest)) t.after now t.is lawful
      (λ fits. client_takes_rest k.client (moment w) t.hears.packets w.client (task_of w) t.after t.task t.hears.holds fits x.client) x.server

  asks : (w now : World) (command : Command) (rest : List Command) → Asks k w command rest now → LawfulOf now → RestOf w → RestOf now
  asks w now command rest t lawful x =
      let s : Started = starts k w command in
      client_worked (with_task t.task (with_command w rest s)) t.after now t.is lawful
      (λ fits. client_rests k.client (moment w) (all_added s.adds w.client) (task_under (Some s.under)) t.after t.task t.settles
      (asked_works k.client s.adds w.client (starts_ask k.client k w command) x.client) fits) x.server

  closes : (w now : World) (channel : ℕ) (rest : List Command) → Closes k w channel rest now → LawfulOf now → RestOf w → RestOf now
  closes w now channel rest t lawful x =
      let s : Started = starts k w (Close channel) in
      server_worked (with_command w rest s) t.after now t.is lawful (λ fits. at (ended_by_close k.server (server_deeds k w) channel) t.settles fits) x.client
    where
      at : (ended : Option ℕ) → Settles k.rule k.server (closed_by channel ended w.server) t.after → IsLawful k.server t.after → IsAtRest (history k.server t.after)
      at None settles fits = settled_is_at_rest k.rule k.server w.server t.after x.server.idle x.server.unhalted settles fits
      at (Some count) settles fits = opened_rests k.server k.rule w.server run_seat (Closing channel) t.after tt x.server settles fits

  cancels : (w now : World) (call : ℕ) → Cancels k w call now → LawfulOf now → RestOf w → RestOf now
  cancels w now call t lawful x =
      client_worked w t.after now t.is lawful
      (λ fits. client_rests k.client (moment w) (adding w.client run_seat (Cancel call)) None t.after None t.settles
      (input_works k.client w.client run_seat (Cancel call) tt x.client (cancel_few k.client (history k.client w.client) call (call_at (history k.client w.client) call))) fits) x.server

  time_passes : (w now : World) → TimePasses k w now → LawfulOf now → RestOf w → RestOf now
  time_passes w now t lawful x =
      let v : World = with_task t.task (later w) in
      let y : World = with_client k v t.client in
      let client_is : y.client ≡ t.client = client_keeps k (λ z. z.client) (λ z p. refl) v t.client in
      let now_client : now.client ≡ y.client = ap (λ z. z.client) t.is ∙ (finished_client k (with_server k y t.server) ∙ server_keeps k (λ z. z.client) (λ z p. refl) y t.server) in
      let fits : IsLawful k.client t.client = subst (IsLawful k.client) (now_client ∙ client_is) lawful.client in
      let client : IsAtRest (history k.client t.client) =
      client_rests k.client (moment (later w)) w.client (task_of w) t.client t.task t.polls (record { idle = x.client.idle; unhalted = x.client.unhalted; room = inl x.client.taken }) fits in
      server_worked y t.server now t.is lawful (λ good. opened_rests k.server k.rule w.server flush_seat (Tick (moment (later w))) t.server tt x.server t.ticks good)
      (subst (λ h. IsAtRest (history k.client h)) (sym client_is) client)

  starts_rest : (w now : World) (command : Command) (rest : List Command) → StartTurn k w command rest now → LawfulOf now → RestOf w → RestOf now
  starts_rest w now (Close channel) rest t lawful x = closes w now channel rest t lawful x
  starts_rest w now (Read resource offset) rest t lawful x = asks w now (Read resource offset) rest t lawful x
  starts_rest w now (Write resource offset) rest t lawful x = asks w now (Write resource offset) rest t lawful x
  starts_rest w now (Echo bytes) rest t lawful x = asks w now (Echo bytes) rest t lawful x
  starts_rest w now (Count n) rest t lawful x = asks w now (Count n) rest t lawful x
  starts_rest w now (Sum bytes) rest t lawful x = asks w now (Sum bytes) rest t lawful x
  starts_rest w now (Chat bytes) rest t lawful x = asks w now (Chat bytes) rest t lawful x

  turn_rests : (w now : World) → Turn k w now → LawfulOf now → RestOf w → RestOf now
  turn_rests w now turn = by_kind w.to_server.frames w.to_client.frames w.under w.coming turn
    where
      by_kind : (ups downs : List (List ℕ)) (under : Option Under) (coming : List Command) → TurnOf k w (kind_by ups downs under coming) now → LawfulOf now → RestOf w → RestOf now
      by_kind (frame ∷ rest) downs under coming t = server_hears w now frame rest t
      by_kind [] (frame ∷ rest) under coming t = client_hears w now frame rest t
      by_kind [] [] None [] t = absurd t
      by_kind [] [] None (command ∷ rest) t = starts_rest w now command rest t
      by_kind [] [] (Some (transferring task)) coming t = time_passes w now t
      by_kind [] [] (Some (lacking resource)) coming t = time_passes w now t
      by_kind [] [] (Some (calling plain call)) coming t = cancels w now call t
      by_kind [] [] (Some (closing channel ended)) coming t = time_passes w now t

  turns_rest : NoFlips k.losses → (n : ℕ) (w now : World) → Turns k n w now → LawfulOf now → RestOf w → RestOf now
  turns_rest calm zero w now same lawful x = subst RestOf same x
  turns_rest calm (suc n) w now turns lawful x =
      let on : GoesOn turns.0 now = turns_go_on k calm n turns.0 now turns.2 in
      let mid : LawfulOf turns.0 = record {
        server = beginning_is_lawful k.server turns.0.server now.server on.server lawful.server;
        client = beginning_is_lawful k.client turns.0.client now.client on.client lawful.client;
      } in
      turns_rest calm n turns.0 now turns.2 lawful (turn_rests w turns.0 turns.1.turn mid x)

pub ends_rest : EndsRest
ends_rest k commands count w calm turns server client =
    let x : Rest k w.server w.client = turns_rest k calm count (first_world commands) w turns (record { server = server; client = client }) (record { server = nothing_yet k.server; client = nothing_yet k.client }) in
    record { server = x.server; client = x.client }
