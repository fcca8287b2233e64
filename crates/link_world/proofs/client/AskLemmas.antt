-- What the client's owner adds as a command starts.
use Rattle.std.proofs.Common.{◌≡◌, ℕ, zero, suc, ◌+◌, ◌<◌, ◌≤◌, Bool, true, false, ◌==◌, ◌&&◌, ◌||◌, not, List, [], ◌∷◌, ◌++◌, drop, get_or, length, map, reverse, slice_get, take, Option, Some, None, is_some, is_none, option_map, if◌then◌else◌, ◌⊎◌, inl, inr, refl, ap, sym, ◌∙◌, subst, arith, length-append}
use Rattle.std.proofs.lemmas.Bool.{and_parts, eqb-true, false≢true, or_left, or_right, true≢false}
use Rattle.std.specs.Option.{option_to_list}
use Rattle.std.proofs.lemmas.List.{take_more}
use Rattle.demo_services.specs.Methods.{transfer_id}
use Rattle.rpc_ids.specs.Names.{name_id}
use Rattle.transfer_base.specs.declared.tuning.Tuning.{Tuning}
use Rattle.rpc_handlers.specs.declared.answer.Out.TheVariants.{Say as Message}
use Rattle.rpc_journal.specs.declared.entry.Entry.{Entry}
use Rattle.rpc_journal.specs.declared.entry.EntryKind.{EntryKind}
use Rattle.rpc_journal.specs.declared.setting.Setting.{Setting}
use Rattle.rpc_journal.specs.Calls.{call_count, calls, is_finish_of, is_replace_of, is_start_of, live_call}
use Rattle.rpc_journal.specs.Effect.{Deed, Opening}
use Rattle.rpc_journal.specs.Entries.{effect_of, invoke_effect}
use Rattle.rpc_journal.specs.History.{adding, deeds_of, deeds_with, entry_by, history}
use Rattle.rpc_journal.specs.Queues.{starts_since, taken_event, waiting_of}
use Rattle.rpc_journal.specs.States.{began_since, finished_since, opens_call, sets_state}
use Rattle.rpc_journal.proofs.KnownLemmas.{unput}
use Rattle.rpc_journal.proofs.PlaceLemmas.{some_same}
use Rattle.rpc_journal.proofs.Push.{history-push}
use Rattle.rpc_ids.specs.declared.method.MethodRef.{MethodRef}
use Rattle.rpc_ids.specs.declared.status.Status.{Status}
use Rattle.rpc_packet.specs.declared.call_name.CallName.{CallName}
use Rattle.rpc_packet.specs.declared.owned.Packet.{Packet}
use Rattle.rpc_channel.specs.Rising.{has_id}
use Rattle.rpc_handlers.specs.declared.event.Memo.{Memo}
use Rattle.rpc_journal.specs.declared.answers.InvokeRefused.{InvokeRefused}
use Rattle.rpc_journal.specs.declared.answers.InvokeRefused.TheVariants.{JournalFull, Live, Memory as NoMemory, NoChannel, NoMethod}
use Rattle.rpc_journal.specs.declared.entry.EntryKind.TheVariants.{Invoke, Say}
use Rattle.rpc_journal.specs.Items.{input_ended, is_end_in, is_flush, is_for, items_waiting}
use Rattle.rpc_journal.specs.Kinds.{is_empty, or_else}
use Rattle.rpc_journal.specs.Refusals.{invoke_refusal, is_full, refused_where}
use Rattle.rpc_journal.specs.Rows.{channel_closed, channels_in, method_named}
use Rattle.rpc_schedule.specs.OneThread.{takes_room}
use Rattle.rpc_schedule.specs.Schedule.{run_seat}
use Rattle.rpc_schedule.specs.Serving.{Serving, deeds}
use Rattle.rpc_schedule.specs.Settling.{IsOrderly}
use Rattle.rpc_schedule.specs.ends.EndState.{EndState, KeepsAside}
use Rattle.link_script.specs.declared.command.Command.{Command}
use Rattle.link_laws.specs.world.Client.{ClientSettles}
use Rattle.link_laws.specs.world.Stops.{ClientStops}
use Rattle.link_laws.specs.world.Starts.{adding_stops, Started, all_added, live_transfers, opens_with, starts, starts_transfer, transfer_by}
use Rattle.link_laws.specs.world.Setup.{client_setting}
use Rattle.link_laws.specs.world.World.{task_under, under_with, Setup, Tasked, Transfer, World, client_deeds, moment, transferring}
use Rattle.link_world.proofs.server.RestLemmas.{entered_is, enters}
use Rattle.link_world.specs.client.Asking.{HasBegun, ClientAdds, ClientAsks, IsClientOf, adds_by, call_by, byte_messages}
use Rattle.link_world.specs.declared.client.under.Under.{Under}
use Rattle.link_world.specs.client.ClientSide.{ClientState, ClientWorks}
use Rattle.link_world.specs.client.Underway.{task_seen, under_of}
use Rattle.link_world.proofs.RoomLemmas.{within_adding}
use Rattle.link_world.proofs.client.IdleLemmas.{few_more}
use Rattle.link_world.proofs.client.NumberLemmas.{OpensNext, numbered_entry}
use Rattle.rpc_schedule.proofs.EntryLemmas.{length-push}

nothing_dropped : {A : Type 0} (n : ℕ) → drop {A = A} n [] ≡ []
nothing_dropped zero = refl
nothing_dropped (suc n) = refl

-- to a call that isn't there nothing has come
untaken : (set : Setting) (es : List Entry) (c : ℕ) → call_count (deeds_of set es) ≤ c → taken_event (deeds_of set es) c ≡ None
untaken set [] c beyond = refl
untaken set (e ∷ es) c beyond = at (is_start_of c e.kind) (untaken set es c below)
  where
    below : call_count (deeds_of set es) ≤ c
    below = omega (arith, beyond, length-append (calls (deeds_of set es)) (option_to_list (effect_of set (deeds_of set es) e.kind).opens))

    none : waiting_of (deeds_of set es) c ≡ []
    none = ap (drop (starts_since (deeds_of set es) c)) (unput set es c below) ∙ nothing_dropped (starts_since (deeds_of set es) c)

    at : (b : Bool) → taken_event (deeds_of set es) c ≡ None
        → (if b then slice_get (map (λ w. w.event) (waiting_of (deeds_of set es) c)) 0 else taken_event (deeds_of set es) c) ≡ None
    at true before = ap (λ ws. slice_get (map (λ w. w.event) ws) 0) none
    at false before = before

unrun : (set : Setting) (es : List Entry) (c : ℕ) → call_count (deeds_of set es) ≤ c → finished_since (deeds_of set es) c ≡ []
unrun set [] c beyond = refl
unrun set (e ∷ es) c beyond =
    at (sets_state (deeds_of set es) (record { entry = e; does = effect_of set (deeds_of set es) e.kind }) c) (is_finish_of c e.kind && began_since (deeds_of set es) c)
    (unrun set es c below) (untaken set es c below)
  where
    below : call_count (deeds_of set es) ≤ c
    below = omega (arith, beyond, length-append (calls (deeds_of set es)) (option_to_list (effect_of set (deeds_of set es) e.kind).opens))

    at : (sets ends : Bool) → finished_since (deeds_of set es) c ≡ [] → taken_event (deeds_of set es) c ≡ None
        → (if sets then [] else if ends then finished_since (deeds_of set es) c ++ option_to_list (taken_event (deeds_of set es) c) else finished_since (deeds_of set es) c) ≡ []
    at true ends none untaken_too = refl
    at false true none untaken_too = ap (λ events. events ++ option_to_list (taken_event (deeds_of set es) c)) none ∙ ap option_to_list untaken_too
    at false false none untaken_too = none

-- no run of a call that isn't there took an event
pub none_ran : (set : Setting) (h : List Entry) (c : ℕ) → call_count (history set h) ≤ c → finished_since (history set h) c ≡ []
none_ran set h c beyond = unrun set (reverse h) c beyond

-- An entry of the owner: it begins and ends no run.

-- no run of another call is told otherwise
kept_events : (set : Setting) (h : List Entry) (seat : ℕ) (kind : EntryKind) → ((k : ℕ) → is_finish_of k kind ≡ false) → ((k : ℕ) → is_replace_of k kind ≡ false)
    → (c : ℕ) → finished_since (history set (adding h seat kind)) c ≡ finished_since (history set h) c
kept_events set h seat kind finish replace c =
    ap (λ ds. finished_since ds c) (history-push set h (entry_by seat kind)) ∙ at (opens_call ds (record { entry = entry_by seat kind; does = effect_of set ds kind }) c) refl
  where
    ds : List Deed
    ds = history set h

    at : (b : Bool) → opens_call (history set h) (record { entry = entry_by seat kind; does = effect_of set (history set h) kind }) c ≡ b
        → finished_since (deeds_with set (history set h) (entry_by seat kind)) c ≡ finished_since (history set h) c
    at true opens =
        let own = eqb-true (call_count (history set h)) c (and_parts (is_some (effect_of set (history set h) kind).opens) (call_count (history set h) == c) opens).1 in
        rw opens (sym (none_ran set h c (omega (arith, own))))
    at false other = rw (other, replace c, finish c) refl

grows : (set : Setting) (h : List Entry) (seat : ℕ) (kind : EntryKind) → call_count (history set h) ≤ call_count (history set (adding h seat kind))
grows set h seat kind =
    subst (λ ds. call_count (history set h) ≤ call_count ds) (sym (history-push set h (entry_by seat kind)))
    (omega (arith, length-append (calls (history set h)) (option_to_list (effect_of set (history set h) kind).opens)))

pub adds_one : (old new : EndState) (kind : EntryKind) → KeepsAside old new → new.serving.table.entries ≡ adding old.serving.table.entries run_seat kind → IsOrderly old.serving
    → is_full old.serving.table.entries ≡ false → ((k : ℕ) → is_start_of k kind ≡ false) → ((k : ℕ) → is_finish_of k kind ≡ false) → ((k : ℕ) → is_replace_of k kind ≡ false)
    → is_flush kind ≡ false → takes_room kind ≡ false → is_end_in kind ≡ false → length (effect_of old.serving.table.setting (deeds old.serving) kind).says ≤ 1
    → is_for 1 (channel_closed kind) ≡ false → OpensNext (call_count (deeds old.serving)) (effect_of old.serving.table.setting (deeds old.serving) kind).opens
    → ClientAdds old.serving (adding old.serving.table.entries run_seat kind) new.serving
adds_one old new kind aside adds orderly free start finish replace flush room ends one closes opens =
    subst (ClientAdds old.serving (adding old.serving.table.entries run_seat kind)) (sym (entered_is old new run_seat kind aside adds))
    (let set = old.serving.table.setting in
    let h = old.serving.table.entries in
    let enter = enters old.serving run_seat kind orderly start finish flush room in
    record {
      added = refl;
      orderly = enter.orderly;
      setting = refl;
      refused = refl;
      input = enter.input ∙ ap (λ b. b || input_ended (deeds old.serving)) ends;
      calls = grows set h run_seat kind;
      waiting = omega (arith, few_more old.serving run_seat kind 1 flush one, length-push h (entry_by run_seat kind));
      kept = λ items events k. record {
        orderly = enter.orderly;
        room = within_adding h run_seat kind k.room free;
        setting = k.setting;
        items = k.items ∙ sym enter.items;
        events = λ c. kept_events set h run_seat kind finish replace c ∙ k.events c;
        numbered = numbered_entry set h (entry_by run_seat kind) closes opens k.numbered;
      };
    })

-- none was added
pub adds_none : (s : Serving) → IsOrderly s → ClientAdds s s.table.entries s
adds_none s orderly = record {
  added = refl;
  orderly = orderly;
  setting = refl;
  refused = refl;
  input = refl;
  calls = omega arith;
  waiting = omega arith;
  kept = λ items events k. k;
}

pub adds_then : (a b c : Serving) (first more : List EntryKind) → ClientAdds a (all_added first a.table.entries) b → ClientAdds b (all_added more b.table.entries) c
    → ClientAdds a (all_added (first ++ more) a.table.entries) c
adds_then a b c first more one two = record {
  added = two.added ∙ (ap (all_added more) one.added ∙ sym (all_append first more a.table.entries));
  orderly = two.orderly;
  setting = two.setting ∙ one.setting;
  refused = two.refused ∙ one.refused;
  input = two.input ∙ one.input;
  calls = omega (arith, one.calls, two.calls);
  waiting = omega (arith, one.waiting, two.waiting);
  kept = λ items events k. two.kept items events (one.kept items events k);
}
  where
    all_append : (first more : List EntryKind) (h : List Entry) → all_added (first ++ more) h ≡ all_added more (all_added first h)
    all_append [] more h = refl
    all_append (kind ∷ first) more h = all_append first more (adding h run_seat kind)

-- Opening a call.

named_so : (full out : Bool) (m : Option MethodRef) (live : Option ℕ)
    → or_else (refused_where full JournalFull) (or_else (refused_where out NoChannel) (or_else (refused_where (is_none m) NoMethod) (option_map Live live))) ≡ None
    → is_none m ≡ false
named_so true out m live is = absurd cc
named_so false true m live is = absurd cc
named_so false false None live is = absurd cc
named_so false false (Some m) live is = refl

-- the new call is there
pub invoked_there : (set : Setting) (h : List Entry) (p : Packet) (memo : Memo) → invoke_refusal set h p.name ≡ None
    → call_count (history set h) < call_count (history set (adding h run_seat (Invoke p memo)))
invoked_there set h p memo unrefused =
    subst (λ ds. call_count (history set h) < call_count ds) (sym (history-push set h (entry_by run_seat (Invoke p memo))))
    (at (method_named set p.name) (named_so (is_full h) (not (has_id (channels_in set (history set h)) p.name.channel)) (method_named set p.name) (live_call (history set h) p.name) unrefused))
  where
    at : (m : Option MethodRef) → is_none m ≡ false → call_count (history set h) < length (calls (history set h) ++ option_to_list (invoke_effect (history set h) p memo m).opens)
    at None none = absurd (true≢false none)
    at (Some m) some = omega (arith, length-append (calls (history set h)) (record { name = p.name; method = m; given = Some memo } ∷ []))

-- the ends of a call, as a status
pub live_is : (ends : List Status) → is_none (slice_get ends 0) ≡ not (not (is_empty ends))
live_is [] = refl
live_is (x ∷ ends) = refl

pub name_is : (o : Option Opening) (name : CallName) → option_map (λ x. x.name) o ≡ Some name → (x : Opening) → o ≡ Some x → x.name ≡ name
name_is None name is x same = absurd cc
name_is (Some y) name is x same = ap (λ z. z.name) (some_same _ _ (sym same)) ∙ some_same _ _ is

-- one message more
pub kinds_more : (c : ℕ) (bytes : List ℕ) (i : ℕ) → i < length bytes → (message : List ℕ) → message ≡ get_or bytes i 0 ∷ []
    → byte_messages c (take (i + 1) bytes) ≡ byte_messages c (take i bytes) ++ Say c (Message message) ∷ []
kinds_more c bytes i within message is =
    ap (byte_messages c) (take_more bytes i 0 within)
    ∙ (kinds_append (take i bytes) (get_or bytes i 0)
    ∙ ap (λ m. byte_messages c (take i bytes) ++ Say c (Message m) ∷ []) (sym is))
  where
    kinds_append : (xs : List ℕ) (x : ℕ) → byte_messages c (xs ++ x ∷ []) ≡ byte_messages c xs ++ Say c (Message (x ∷ [])) ∷ []
    kinds_append [] x = refl
    kinds_append (y ∷ xs) x = ap (λ ks. Say c (Message (y ∷ [])) ∷ ks) (kinds_append xs x)

-- What a command starts, by the client of its world.

pub deeds_are : (k : Setup) (w : World) (s : ClientState) (begun : ℕ) (tuning : Tuning) (at : ℕ) → IsClientOf k w s begun tuning at
    → s.end.serving.table.setting ≡ client_setting → client_deeds k w ≡ deeds s.end.serving
deeds_are k w s begun tuning at is setting =
    ap (λ set. history set w.client) (is.setting ∙ sym setting) ∙ ap (history s.end.serving.table.setting) is.entries

started_by : (w : World) (live : List ℕ) (opening : EntryKind) (next : ℕ) (t : Transfer)
    → transfer_by w live opening next t ≡ record {
      adds = adds_by live opening;
      under = transferring (record { call = call_by live next; session = w.sessions + 1; transfer = t });
      sessions = w.sessions + 1;
    }
started_by w [] opening next t = refl
started_by w (c ∷ cs) opening next t = refl

-- what a transfer starts
pub record BeginsTransfer (started : Started) (before after : List Entry) (task : Tasked) (begun : ℕ) : Type 0 where
  pub added : after ≡ all_added started.adds before
  pub under : transferring task ≡ started.under
  pub sessions : begun ≡ started.sessions

pub transfer_begins : (k : Setup) (w : World) (s : ClientState) (begun : ℕ) (tuning : Tuning) (at : ℕ) → IsClientOf k w s begun tuning at
    → s.end.serving.table.setting ≡ client_setting → (method : List ℕ) (t : Transfer) (after : List Entry) (task : Tasked) (session : ℕ)
    → after ≡ all_added (adds_by (live_transfers (name_id method) (deeds s.end.serving)) (opens_with transfer_id (name_id method) [] (deeds s.end.serving))) s.end.serving.table.entries
    → task ≡ record { call = call_by (live_transfers (name_id method) (deeds s.end.serving)) (call_count (deeds s.end.serving)); session = session; transfer = t }
    → session ≡ begun + 1 → BeginsTransfer (starts_transfer k w method t) w.client after task session
transfer_begins k w s begun tuning at is setting method t after task session added task_is number =
    subst (λ started. BeginsTransfer started w.client after task session) (sym same) (record {
      added = added ∙ ap (all_added (adds_by (live_transfers (name_id method) (deeds s.end.serving)) (opens_with transfer_id (name_id method) [] (deeds s.end.serving)))) (sym is.entries);
      under = ap transferring (task_is ∙ ap (λ n. record { call = call_by (live_transfers (name_id method) (deeds s.end.serving)) (call_count (deeds s.end.serving)); session = n; transfer = t }) counted);
      sessions = counted;
    })
  where
    counted : session ≡ w.sessions + 1
    counted = number ∙ ap (λ n. n + 1) (sym is.sessions)

    same : starts_transfer k w method t ≡ record {
      adds = adds_by (live_transfers (name_id method) (deeds s.end.serving)) (opens_with transfer_id (name_id method) [] (deeds s.end.serving));
      under = transferring (record { call = call_by (live_transfers (name_id method) (deeds s.end.serving)) (call_count (deeds s.end.serving)); session = w.sessions + 1; transfer = t });
      sessions = w.sessions + 1;
    }
    same =
        ap (λ ds. transfer_by w (live_transfers (name_id method) ds) (opens_with transfer_id (name_id method) [] ds) (call_count ds) t) (deeds_are k w s begun tuning at is setting)
        ∙ started_by w (live_transfers (name_id method) (deeds s.end.serving)) (opens_with transfer_id (name_id method) [] (deeds s.end.serving)) (call_count (deeds s.end.serving)) t

-- the command has started
pub asks_by : (k : Setup) (w : World) (command : Command) (now : ℕ) (mid after : List Entry) (begins way : Under) (begun : ℕ) → HasBegun k w command mid begins begun
    → k.client ≡ client_setting → moment w ≡ now → ClientWorks now mid (Some begins) after (Some way) → ClientAsks k w command after way begun
asks_by k w command now mid after begins way begun b setting at works = record {
  next = works.next;
  settles =
      subst (λ set. ClientSettles set (moment w) (all_added (starts k w command).adds w.client) (task_under (Some (starts k w command).under)) after works.next) (sym setting)
      (subst (λ m. ClientSettles client_setting m (all_added (starts k w command).adds w.client) (task_under (Some (starts k w command).under)) after works.next) (sym at)
      (subst (λ u. ClientSettles client_setting now (all_added (starts k w command).adds w.client) (task_under (Some u)) after works.next) b.under
      (subst (λ h. ClientSettles client_setting now h (task_under (Some (under_of begins))) after works.next) b.added works.settles)));
  under = works.under ∙ ap (λ u. under_with works.next (Some u)) b.under;
  sessions = b.sessions;
}

-- Of the entries of a start one has no room.

full_named : (full out : Bool) (m : Option MethodRef) (live : Option ℕ)
    → or_else (refused_where full JournalFull) (or_else (refused_where out NoChannel) (or_else (refused_where (is_none m) NoMethod) (option_map Live live))) ≡ Some JournalFull
    → full ≡ true
full_named true out m live is = refl
full_named false true m live is = absurd cc
full_named false false None live is = absurd cc
full_named false false (Some m) None is = absurd cc
full_named false false (Some m) (Some c) is = absurd cc

pub invoke_full : (set : Setting) (h : List Entry) (name : CallName) (why : InvokeRefused) → why ≡ JournalFull
    → (why ≡ NoMemory) ⊎ (invoke_refusal set h name ≡ Some why) → is_full h ≡ true
invoke_full set h name why is (inl memory) = absurd (let never = sym is ∙ memory in cc)
invoke_full set h name why is (inr refused) =
    full_named (is_full h) (not (has_id (channels_in set (history set h)) name.channel)) (method_named set name) (live_call (history set h) name) (refused ∙ ap Some is)

pub stops_first : (first more : List EntryKind) (h : List Entry) → adding_stops first h ≡ true → adding_stops (first ++ more) h ≡ true
stops_first [] more h stops = absurd (false≢true stops)
stops_first (kind ∷ first) more h stops = at (is_full h) refl stops (stops_first first more (adding h run_seat kind))
  where
    at : (b : Bool) → is_full h ≡ b → (b || adding_stops first (adding h run_seat kind)) ≡ true
        → (adding_stops first (adding h run_seat kind) ≡ true → adding_stops (first ++ more) (adding h run_seat kind) ≡ true)
        → (is_full h || adding_stops (first ++ more) (adding h run_seat kind)) ≡ true
    at true full is rest = or_left (is_full h) (adding_stops (first ++ more) (adding h run_seat kind)) full
    at false room is rest = or_right (is_full h) (adding_stops (first ++ more) (adding h run_seat kind)) (rest is)

pub stops_after : (first more : List EntryKind) (h : List Entry) → adding_stops more (all_added first h) ≡ true → adding_stops (first ++ more) h ≡ true
stops_after [] more h stops = stops
stops_after (kind ∷ first) more h stops = or_right (is_full h) (adding_stops (first ++ more) (adding h run_seat kind)) (stops_after first more (adding h run_seat kind) stops)

pub stops_sending : (c : ℕ) (bytes : List ℕ) (i : ℕ) (h : List Entry) → i < length bytes → is_full (all_added (byte_messages c (take i bytes)) h) ≡ true
    → adding_stops (byte_messages c bytes) h ≡ true
stops_sending c [] i h within full = absurd (omega (arith, within))
stops_sending c (x ∷ bytes) zero h within full = or_left (is_full h) (adding_stops (byte_messages c bytes) (adding h run_seat (Say c (Message (x ∷ []))))) full
stops_sending c (x ∷ bytes) (suc i) h within full =
    or_right (is_full h) (adding_stops (byte_messages c bytes) (adding h run_seat (Say c (Message (x ∷ [])))))
    (stops_sending c bytes i (adding h run_seat (Say c (Message (x ∷ [])))) (omega (arith, within)) full)

-- the work behind the start has no room
pub stops_by_work : (k : Setup) (w : World) (command : Command) (now : ℕ) (mid : List Entry) (begins : Under) (begun : ℕ) → HasBegun k w command mid begins begun
    → k.client ≡ client_setting → moment w ≡ now → ClientStops client_setting now mid (task_seen (Some begins))
    → ClientStops k.client (moment w) (all_added (starts k w command).adds w.client) (task_under (Some (starts k w command).under))
stops_by_work k w command now mid begins begun b setting at stops =
    subst (λ set. ClientStops set (moment w) (all_added (starts k w command).adds w.client) (task_under (Some (starts k w command).under))) (sym setting)
    (subst (λ m. ClientStops client_setting m (all_added (starts k w command).adds w.client) (task_under (Some (starts k w command).under))) (sym at)
    (subst (λ u. ClientStops client_setting now (all_added (starts k w command).adds w.client) (task_under (Some u))) b.under
    (subst (λ h. ClientStops client_setting now h (task_under (Some (under_of begins)))) b.added stops)))

-- So few entries were added, and so few items wait then.

added_length : (kinds : List EntryKind) (h : List Entry) → length (all_added kinds h) ≡ length h + length kinds
added_length [] h = omega arith
added_length (kind ∷ kinds) h = omega (arith, added_length kinds (adding h run_seat kind), length-push h (entry_by run_seat kind))

pub few_added : (old new : Serving) (kinds : List EntryKind) → ClientAdds old (all_added kinds old.table.entries) new
    → items_waiting (deeds new) ≤ items_waiting (deeds old) + length kinds
few_added old new kinds adds = omega (arith, adds.waiting, ap length adds.added, added_length kinds old.table.entries)

pub messages_length : (c : ℕ) (bytes : List ℕ) → length (byte_messages c bytes) ≡ length bytes
messages_length c [] = refl
messages_length c (x ∷ bytes) = ap suc (messages_length c bytes)
