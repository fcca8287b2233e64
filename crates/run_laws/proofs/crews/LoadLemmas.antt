-- The packets of a generated load are calm: each call has a name of its own, and its last packet is the one whose answer ends it.
use Rattle.std.proofs.Common.{◌≡◌, ◌⊎◌, ℕ, zero, suc, ◌+◌, ◌%◌, ◌<◌, ◌≤◌, Bool, true, false, not, ◌&&◌, ◌||◌, ◌==◌, List, [], ◌∷◌, ◌++◌, codes, length, filter, reverse, slice_get, Some, None, option_to_list, if◌then◌else◌, refl, ap, sym, ◌∙◌, subst, inl, inr, arith, length-append}
use Rattle.std.proofs.lemmas.Bool.{false≢true, and_parts, eq-eqb, eqb-true}
use Rattle.std.proofs.lemmas.List.{append-nil, reverse-append}
use Rattle.std.proofs.lemmas.Option.{slice_get_within}
use Rattle.std.specs.List.{list_any}
use Rattle.rpc_ids.specs.declared.method.Kind.TheVariants.{Unary, ServerStream, ClientStream as ClientStreaming, Bidi}
use Rattle.rpc_ids.specs.declared.method.MethodRef.{MethodRef}
use Rattle.rpc_ids.specs.declared.method.Role.{Role}
use Rattle.rpc_ids.specs.declared.method.Role.TheVariants.{Server}
use Rattle.rpc_ids.specs.Names.{name_id}
use Rattle.rpc_ids.specs.Registry.{method_of}
use Rattle.rpc_channel.specs.Rising.{has_id}
use Rattle.rpc_packet.specs.declared.call_name.CallName.{CallName}
use Rattle.rpc_packet.specs.declared.owned.Packet.{Packet}
use Rattle.rpc_packet.specs.declared.packet_type.PacketType.TheVariants.{Request, ClientStream, Completion}
use Rattle.rpc_handlers.specs.declared.event.Event.{Event}
use Rattle.rpc_handlers.specs.declared.event.Event.TheVariants as event
use Rattle.rpc_journal.specs.declared.setting.Setting.{Setting}
use Rattle.rpc_journal.specs.Calls.{call_at, call_count, calls, has_end, last_call, live_call, of_call, opens_named, same_name}
use Rattle.rpc_journal.specs.Effect.{Deed, Effect, Opening}
use Rattle.rpc_journal.specs.Entries.{arrive_row, row_by}
use Rattle.rpc_journal.specs.Kinds.{is_empty, is_unary, streams_up}
use Rattle.rpc_journal.specs.Lawful.{is_request}
use Rattle.rpc_journal.specs.Queues.{is_completed, is_completion}
use Rattle.rpc_journal.specs.Rows.{channels_in, method_named, opens_served, puts_event}
use Rattle.rpc_journal.specs.ServerTable.{server_row}
use Rattle.rpc_journal.specs.States.{opened_state}
use Rattle.rpc_journal.proofs.PlaceLemmas.{below_or_not, get_front, get_last, some_same}
use Rattle.demo_services.specs.declared.ids.TheConstants.{DEMO, ECHO, COUNT, SUM, CHAT}
use Rattle.demo_services.specs.DemoRule.{demo_rule}
use Rattle.demo_services.specs.Methods.{demo_method, demo_methods}
use Rattle.load_stream.specs.declared.calls.TheConstants.{CHANNEL}
use Rattle.link_script.specs.Generator.{number_after}
use Rattle.load_stream.specs.Load.{call_name, call_packets, count_in, highest_bytes, load_packets, packet, streamed}
use Rattle.load_stream.proofs.LoadLaws.{load_heard}
use Rattle.run_laws.specs.calm.Alone.{arrived, puts_to, stays_open}
use Rattle.run_laws.specs.calm.Calm.{AreCalm, HasNoRequest, is_client_error}
use Rattle.run_laws.proofs.calm.ByPackets.{AllFit, FitsBehind, enough, fit_come}
use Rattle.run_laws.proofs.calm.Compare.{open_front}
use Rattle.run_laws.proofs.calm.Drive.{AllCome}
use Rattle.run_laws.proofs.calm.Follow.{Alone, alone_more}
use Rattle.run_laws.specs.crews.CalmLoads.{LoadsAreCalm}

alone_all : (set : Setting) → set.role ≡ Server → (qs : List Packet) → AllCome set qs → Alone set qs
alone_all set role [] come = record { none_ended = λ c. refl; fresh_names = λ name none. refl; no_ticks = λ c o is. absurd (none_at c o is); unput = λ c past. refl }
  where
    none_at : (c : ℕ) (o : Opening) → slice_get (calls []) c ≡ Some o → ⊥
    none_at c o is = cc
alone_all set role (p ∷ qs) come = alone_more set role qs p (alone_all set role qs come.0) come.1

any-append : (test : Event → Bool) (xs ys : List Event) → list_any test (xs ++ ys) ≡ (list_any test ys || list_any test xs)
any-append test [] ys = at (list_any test ys)
  where
    at : (b : Bool) → b ≡ (b || false)
    at true = refl
    at false = refl
any-append test (x ∷ xs) ys = ap (λ b. test x || b) (any-append test xs ys) ∙ at (test x) (list_any test ys) (list_any test xs)
  where
    at : (a b d : Bool) → (a || (b || d)) ≡ (b || (a || d))
    at true true d = refl
    at true false d = refl
    at false b d = refl

-- a call is completed where a completion was put to it
completed_by : (ds : List Deed) (c : ℕ) → is_completed ds c ≡ list_any is_completion (puts_to ds c)
completed_by [] c = refl
completed_by (d ∷ ds) c =
    ap (λ b. list_any is_completion (of_call c d.does.puts) || b) (completed_by ds c) ∙ sym (any-append is_completion (puts_to ds c) (of_call c d.does.puts))

same_itself : (name : CallName) → same_name name name ≡ true
same_itself name = rw (eq-eqb name.channel name.channel refl, eq-eqb name.service name.service refl, eq-eqb name.method name.method refl, eq-eqb name.call name.call refl) refl

-- calls of one name have one id
same_id : (a b : CallName) → same_name a b ≡ true → a.call ≡ b.call
same_id a b same = eqb-true a.call b.call (and_parts _ (a.call == b.call) same).1

same_or_not : (a b : CallName) (x : Bool) → same_name a b ≡ x → (a.call ≡ b.call → ⊥) → same_name a b ≡ false
same_or_not a b true same apart = absurd (apart (same_id a b same))
same_or_not a b false is apart = is

-- each call's id is its place and one more, and so it is with one call more
numbered_more : (xs : List Opening) (y : Opening) → ((k : ℕ) (x : Opening) → slice_get xs k ≡ Some x → x.name.call ≡ k + 1) → y.name.call ≡ length xs + 1
    → (k : ℕ) (x : Opening) → slice_get (xs ++ y ∷ []) k ≡ Some x → x.name.call ≡ k + 1
numbered_more xs y each last k x there = at (below_or_not k (length xs))
  where
    at : (k < length xs) ⊎ (length xs ≤ k) → x.name.call ≡ k + 1
    at (inl below) = each k x (sym (get_front xs (y ∷ []) k below) ∙ there)
    at (inr past) =
        let place : k ≡ length xs = omega (arith, past, slice_get_within (xs ++ y ∷ []) k x there, length-append xs (y ∷ [])) in
        let it : y ≡ x = some_same y x (sym (get_last xs y) ∙ (ap (slice_get (xs ++ y ∷ [])) (sym place) ∙ there)) in
        ap (λ (z : Opening). z.name.call) (sym it) ∙ (last ∙ ap (λ j. j + 1) (sym place))

-- a call of the load as it opens
abbrev opening : ℕ → ℕ → MethodRef → Opening
opening n method m = record { name = call_name n method; method = m; given = None }

all_pass : (channels : List ℕ) → filter (λ channel. not false) channels ≡ channels
all_pass [] = refl
all_pass (c ∷ channels) = ap (λ cs. c ∷ cs) (all_pass channels)

module _ (set : Setting) (role : set.role ≡ Server) (methods : set.registry ≡ demo_methods) (channel : has_id set.channels CHANNEL ≡ true) where
  channels_alone : (qs : List Packet) → channels_in set (arrived set qs) ≡ set.channels
  channels_alone [] = all_pass set.channels
  channels_alone (p ∷ qs) = channels_alone qs

  channel_in : (qs : List Packet) → has_id (channels_in set (arrived set qs)) CHANNEL ≡ true
  channel_in qs = ap (λ channels. has_id channels CHANNEL) (channels_alone qs) ∙ channel

  -- the row of a packet at a server
  at_server : (qs : List Packet) (p : Packet) (e : Effect) → (server_row set (arrived set qs) p).does ≡ e → (arrive_row set (arrived set qs) p).does ≡ e
  unfolding arrive_row
  at_server qs p e is = subst (λ (r : Role). (row_by r set (arrived set qs) p).does ≡ e) (sym role) is

  -- so many calls have come, and no other packet
  record Between (n : ℕ) (qs : List Packet) : Type 0 where
    calm : AllFit demo_rule set qs
    count : call_count (arrived set qs) ≡ n
    numbered : (c : ℕ) (o : Opening) → call_at (arrived set qs) c ≡ Some o → o.name.call ≡ c + 1
    fresh : (name : CallName) → n < name.call → HasNoRequest name qs

  -- and the last of them, of this method, was put these events
  record Within (n : ℕ) (qs : List Packet) (method : ℕ) (m : MethodRef) (events : List Event) : Type 0 where
    between : Between (n + 1) qs
    there : call_at (arrived set qs) n ≡ Some (opening n method m)
    last : last_call (arrived set qs) (call_name n method) ≡ Some n
    put : puts_to (arrived set qs) n ≡ events

  alone_of : (qs : List Packet) → AllFit demo_rule set qs → Alone set qs
  alone_of qs fit = alone_all set role qs (fit_come demo_rule set role refl qs fit)

  module _ (n : ℕ) (qs : List Packet) (method : ℕ) (m : MethodRef) (known : method_of demo_methods DEMO method ≡ Some m) where
    known_here : method_named set (call_name n method) ≡ Some m
    known_here = ap (λ rows. method_of rows DEMO method) methods ∙ known

    -- a REQUEST with the next id
    module _ (b : Between n qs) (no_tick : m.ticks ≡ false) (payload : List ℕ) where
      none_yet : HasNoRequest (call_name n method) qs
      none_yet = b.fresh (call_name n method) (omega arith)

      opens_row : (arrive_row set (arrived set qs) (packet Request (call_name n method) payload)).does ≡ opens_served (packet Request (call_name n method) payload) m (call_count (arrived set qs))
      unfolding arrive_row
      opens_row =
          let none : last_call (arrived set qs) (call_name n method) ≡ None = (alone_of qs b.calm).fresh_names (call_name n method) none_yet in
          at_server qs (packet Request (call_name n method) payload) _ (rw (channel_in qs, known_here, none) refl)

      opens_fits : FitsBehind demo_rule set qs (packet Request (call_name n method) payload)
      opens_fits = record {
        no_error = refl;
        new_name = λ is. none_yet;
        no_tick = λ is. rw known_here no_tick;
        unended = λ c x there same. absurd (not_there c x there same);
      }
        where
          not_there : (c : ℕ) (x : Opening) → call_at (arrived set qs) c ≡ Some x → same_name x.name (call_name n method) ≡ true → ⊥
          not_there c x there same =
              let here : n + 1 ≡ c + 1 = sym (same_id x.name (call_name n method) same) ∙ b.numbered c x there in
              let count : call_count (arrived set qs) ≡ n = b.count in
              omega (arith, here, count, slice_get_within (calls (arrived set qs)) c x there)

      opens : Within n (packet Request (call_name n method) payload ∷ qs) method m (event.Request payload ∷ [])
      opens =
          let p : Packet = packet Request (call_name n method) payload in
          let all : calls (arrived set (p ∷ qs)) ≡ calls (arrived set qs) ++ opening n method m ∷ [] = ap (λ (e : Effect). calls (arrived set qs) ++ option_to_list e.opens) opens_row in
          let count : call_count (arrived set qs) ≡ n = b.count in
          let none : puts_to (arrived set qs) n ≡ [] = (alone_of qs b.calm).unput n (omega (arith, count)) in
          record {
            between = record {
              calm = (b.calm, opens_fits);
              count = ap length all ∙ (length-append (calls (arrived set qs)) (opening n method m ∷ []) ∙ ap (λ k. k + 1) count);
              numbered = λ c x there.
                  numbered_more (calls (arrived set qs)) (opening n method m) b.numbered (ap (λ k. k + 1) (sym count)) c x (sym (ap (λ xs. slice_get xs c) all) ∙ there);
              fresh = λ name after. (other name after, b.fresh name (omega (arith, after)));
            };
            there = ap (λ xs. slice_get xs n) all ∙ (ap (slice_get (calls (arrived set qs) ++ opening n method m ∷ [])) (sym count) ∙ get_last (calls (arrived set qs)) (opening n method m));
            last =
                ap (λ (e : Effect). if opens_named (call_name n method) e.opens then Some (call_count (arrived set qs)) else last_call (arrived set qs) (call_name n method)) opens_row
                ∙ (ap (λ x. if x then Some (call_count (arrived set qs)) else last_call (arrived set qs) (call_name n method)) (same_itself (call_name n method)) ∙ ap Some count);
            put =
                ap (λ (e : Effect). puts_to (arrived set qs) n ++ of_call n e.puts) opens_row
                ∙ (ap (λ xs. xs ++ of_call n ((call_count (arrived set qs), event.Request payload) ∷ [])) none
                ∙ (ap (λ k. of_call n ((k, event.Request payload) ∷ [])) count ∙ ap (λ x. if x then event.Request payload ∷ [] else []) (eq-eqb n n refl)));
          }
        where
          other : (name : CallName) → n + 1 < name.call → (true && same_name (call_name n method) name) ≡ false
          other name after = same_or_not (call_name n method) name (same_name (call_name n method) name) refl (λ same. omega (arith, same, after))

    -- a packet that is put to the call
    module _ (events : List Event) (w : Within n qs method m events) where
      live : live_call (arrived set qs) (call_name n method) ≡ Some n
      live =
          let unended : has_end (arrived set qs) n ≡ false = ap (λ xs. not (is_empty xs)) ((alone_of qs w.between.calm).none_ended n) in
          rw (w.last, unended) refl

      completed : list_any is_completion events ≡ false → is_completed (arrived set qs) n ≡ false
      completed none = completed_by (arrived set qs) n ∙ (ap (list_any is_completion) w.put ∙ none)

      message_row : (payload : List ℕ) → streams_up m.kind ≡ true → list_any is_completion events ≡ false
          → (arrive_row set (arrived set qs) (packet ClientStream (call_name n method) payload)).does ≡ puts_event n (event.Message payload)
      unfolding arrive_row
      message_row payload streams none =
          at_server qs (packet ClientStream (call_name n method) payload) _ (rw (channel_in qs, known_here, live, streams, completed none) refl)

      completion_row : is_unary m.kind ≡ false → list_any is_completion events ≡ false
          → (arrive_row set (arrived set qs) (packet Completion (call_name n method) [])).does ≡ puts_event n event.Completion
      unfolding arrive_row
      completion_row streams none =
          at_server qs (packet Completion (call_name n method) []) _ (rw (channel_in qs, known_here, live, streams, completed none) refl)

      module _ (p : Packet) (named : p.name ≡ call_name n method) (no_error : is_client_error p.ptype ≡ false) (no_request : is_request p.ptype ≡ false) (ev : Event)
          (row : (arrive_row set (arrived set qs) p).does ≡ puts_event n ev) (still : stays_open demo_rule (opened_state demo_rule set (opening n method m)) events ≡ true) where
        its_call : (c : ℕ) (x : Opening) → call_at (arrived set qs) c ≡ Some x → same_name x.name p.name ≡ true → stays_open demo_rule (opened_state demo_rule set x) (puts_to (arrived set qs) c) ≡ true
        its_call c x there same =
            let id : x.name.call ≡ n + 1 = same_id x.name p.name same ∙ ap (λ (name : CallName). name.call) named in
            let place : n ≡ c = omega (arith, id, w.between.numbered c x there) in
            let it : opening n method m ≡ x = some_same (opening n method m) x (sym w.there ∙ (ap (slice_get (calls (arrived set qs))) place ∙ there)) in
            subst (λ (y : Opening). stays_open demo_rule (opened_state demo_rule set y) (puts_to (arrived set qs) c) ≡ true) it
            (subst (λ k. stays_open demo_rule (opened_state demo_rule set (opening n method m)) (puts_to (arrived set qs) k) ≡ true) place
            (subst (λ es. stays_open demo_rule (opened_state demo_rule set (opening n method m)) es ≡ true) (sym w.put) still))

        puts_fits : FitsBehind demo_rule set qs p
        puts_fits = record {
          no_error = no_error;
          new_name = λ is. absurd (false≢true (sym no_request ∙ is));
          no_tick = λ is. absurd (false≢true (sym no_request ∙ is));
          unended = its_call;
        }

        puts : Within n (p ∷ qs) method m (events ++ ev ∷ [])
        puts =
            let all : calls (arrived set (p ∷ qs)) ≡ calls (arrived set qs) = ap (λ (e : Effect). calls (arrived set qs) ++ option_to_list e.opens) row ∙ append-nil (calls (arrived set qs)) in
            record {
              between = record {
                calm = (w.between.calm, puts_fits);
                count = ap length all ∙ w.between.count;
                numbered = λ c x there. w.between.numbered c x (sym (ap (λ xs. slice_get xs c) all) ∙ there);
                fresh = λ name after. (ap (λ b. b && same_name p.name name) no_request, w.between.fresh name after);
              };
              there = ap (λ xs. slice_get xs n) all ∙ w.there;
              last =
                  ap (λ (e : Effect). if opens_named (call_name n method) e.opens then Some (call_count (arrived set qs)) else last_call (arrived set qs) (call_name n method)) row ∙ w.last;
              put =
                  ap (λ (e : Effect). puts_to (arrived set qs) n ++ of_call n e.puts) row
                  ∙ (ap (λ xs. xs ++ of_call n ((n, ev) ∷ [])) w.put ∙ ap (λ x. events ++ (if x then ev ∷ [] else [])) (eq-eqb n n refl));
            }

  -- a call that sends three messages and its completion
  module _ (n : ℕ) (qs : List Packet) (b : Between n qs) (method : ℕ) (m : MethodRef) (known : method_of demo_methods DEMO method ≡ Some m) (no_tick : m.ticks ≡ false)
      (streams : streams_up m.kind ≡ true) (not_unary : is_unary m.kind ≡ false) (x y z : ℕ)
      (still : stays_open demo_rule (opened_state demo_rule set (opening n method m)) (event.Request [] ∷ event.Message (x ∷ []) ∷ event.Message (y ∷ []) ∷ event.Message (z ∷ []) ∷ []) ≡ true) where
    abbrev name : CallName
    name = call_name n method

    abbrev first : List Packet
    first = packet Request name [] ∷ qs

    abbrev second : List Packet
    second = packet ClientStream name (x ∷ []) ∷ first

    abbrev third : List Packet
    third = packet ClientStream name (y ∷ []) ∷ second

    abbrev fourth : List Packet
    fourth = packet ClientStream name (z ∷ []) ∷ third

    front_open : (front more : List Event) → front ++ more ≡ event.Request [] ∷ event.Message (x ∷ []) ∷ event.Message (y ∷ []) ∷ event.Message (z ∷ []) ∷ []
        → stays_open demo_rule (opened_state demo_rule set (opening n method m)) front ≡ true
    front_open front more is =
        open_front demo_rule (opened_state demo_rule set (opening n method m)) front more (subst (λ es. stays_open demo_rule (opened_state demo_rule set (opening n method m)) es ≡ true) (sym is) still)

    one : Within n first method m (event.Request [] ∷ [])
    one = opens n qs method m known b no_tick []

    message : (ps : List Packet) (events more : List Event) (byte : ℕ) → Within n ps method m events → list_any is_completion events ≡ false
        → events ++ more ≡ event.Request [] ∷ event.Message (x ∷ []) ∷ event.Message (y ∷ []) ∷ event.Message (z ∷ []) ∷ []
        → Within n (packet ClientStream name (byte ∷ []) ∷ ps) method m (events ++ event.Message (byte ∷ []) ∷ [])
    message ps events more byte w none is =
        puts n ps method m known events w (packet ClientStream name (byte ∷ [])) refl refl refl (event.Message (byte ∷ []))
        (message_row n ps method m known events w (byte ∷ []) streams none) (front_open events more is)

    two : Within n second method m (event.Request [] ∷ event.Message (x ∷ []) ∷ [])
    two = message first (event.Request [] ∷ []) (event.Message (x ∷ []) ∷ event.Message (y ∷ []) ∷ event.Message (z ∷ []) ∷ []) x one refl refl

    three : Within n third method m (event.Request [] ∷ event.Message (x ∷ []) ∷ event.Message (y ∷ []) ∷ [])
    three = message second (event.Request [] ∷ event.Message (x ∷ []) ∷ []) (event.Message (y ∷ []) ∷ event.Message (z ∷ []) ∷ []) y two refl refl

    four : Within n fourth method m (event.Request [] ∷ event.Message (x ∷ []) ∷ event.Message (y ∷ []) ∷ event.Message (z ∷ []) ∷ [])
    four = message third (event.Request [] ∷ event.Message (x ∷ []) ∷ event.Message (y ∷ []) ∷ []) (event.Message (z ∷ []) ∷ []) z three refl refl

    streams_between : Between (n + 1) (packet Completion name [] ∷ fourth)
    streams_between =
        Within.between
        (puts n fourth method m known (event.Request [] ∷ event.Message (x ∷ []) ∷ event.Message (y ∷ []) ∷ event.Message (z ∷ []) ∷ []) four (packet Completion name []) refl refl refl event.Completion
        (completion_row n fourth method m known _ four not_unary refl) still)

-- the methods that a load calls
echo_is : method_of demo_methods DEMO ECHO ≡ Some (demo_method (codes "Echo") Unary)
unfolding name_id
echo_is = refl

count_is : method_of demo_methods DEMO COUNT ≡ Some (demo_method (codes "Count") ServerStream)
unfolding name_id
count_is = refl

sum_is : method_of demo_methods DEMO SUM ≡ Some (demo_method (codes "Sum") ClientStreaming)
unfolding name_id
sum_is = refl

chat_is : method_of demo_methods DEMO CHAT ≡ Some (demo_method (codes "Chat") Bidi)
unfolding name_id
chat_is = refl

-- a REQUEST and three messages leave a call of Sum and of Chat open
abbrev asked : ℕ → ℕ → ℕ → List Event
asked x y z = event.Request [] ∷ event.Message (x ∷ []) ∷ event.Message (y ∷ []) ∷ event.Message (z ∷ []) ∷ []

sum_stays : (set : Setting) (n x y z : ℕ) → stays_open demo_rule (opened_state demo_rule set (opening n SUM (demo_method (codes "Sum") ClientStreaming))) (asked x y z) ≡ true
unfolding name_id
sum_stays set n x y z = refl

chat_stays : (set : Setting) (n x y z : ℕ) → stays_open demo_rule (opened_state demo_rule set (opening n CHAT (demo_method (codes "Chat") Bidi))) (asked x y z) ≡ true
unfolding name_id
chat_stays set n x y z = refl

-- a list of three
three_of : (bytes : List ℕ) → length bytes ≡ 3 → (x : ℕ) × (y : ℕ) × (z : ℕ) × (bytes ≡ x ∷ y ∷ z ∷ [])
three_of [] is = absurd (omega (arith, is))
three_of (x ∷ []) is = absurd (omega (arith, is))
three_of (x ∷ y ∷ []) is = absurd (omega (arith, is))
three_of (x ∷ y ∷ z ∷ []) is = (x, y, z, refl)
three_of (x ∷ y ∷ z ∷ w ∷ bytes) is = absurd (omega (arith, is))

highest_length : (x : ℕ) → length (highest_bytes x) ≡ 3
highest_length x = refl

module _ (set : Setting) (role : set.role ≡ Server) (methods : set.registry ≡ demo_methods) (channel : has_id set.channels CHANNEL ≡ true) where
  abbrev Then : ℕ → List Packet → List Packet → Type 0
  Then n qs packets = Between set role methods channel (n + 1) (reverse packets ++ qs)

  streams_then : (n : ℕ) (qs : List Packet) → Between set role methods channel n qs → (method : ℕ) (m : MethodRef) → method_of demo_methods DEMO method ≡ Some m → m.ticks ≡ false
      → streams_up m.kind ≡ true → is_unary m.kind ≡ false
      → ((x y z : ℕ) → stays_open demo_rule (opened_state demo_rule set (opening n method m)) (asked x y z) ≡ true)
      → (bytes : List ℕ) → length bytes ≡ 3 → Then n qs (streamed (call_name n method) bytes)
  unfolding streamed
  streams_then n qs b method m known no_tick streams not_unary still bytes three =
      let is = three_of bytes three in
      subst (λ bs. Then n qs (streamed (call_name n method) bs)) (sym is.3)
      (streams_between set role methods channel n qs b method m known no_tick streams not_unary is.0 is.1 is.2 (still is.0 is.1 is.2))

  either_then : (n : ℕ) (qs : List Packet) (x : Bool) (ps more : List Packet) → Then n qs ps → Then n qs more → Then n qs (if x then ps else more)
  either_then n qs true ps more is other = is
  either_then n qs false ps more other is = is

  call_then : (n x : ℕ) (qs : List Packet) → Between set role methods channel n qs → Then n qs (call_packets n x)
  unfolding call_packets
  call_then n x qs b =
      either_then n qs (n % 4 == 0) _ _ (Within.between (opens set role methods channel n qs ECHO (demo_method (codes "Echo") Unary) echo_is b refl (highest_bytes x)))
      (either_then n qs (n % 4 == 1) _ _ (Within.between (opens set role methods channel n qs COUNT (demo_method (codes "Count") ServerStream) count_is b refl (count_in x ∷ [])))
      (either_then n qs (n % 4 == 2) _ _
      (streams_then n qs b SUM (demo_method (codes "Sum") ClientStreaming) sum_is refl refl refl (sum_stays set n) (highest_bytes x) (highest_length x))
      (streams_then n qs b CHAT (demo_method (codes "Chat") Bidi) chat_is refl refl refl (chat_stays set n) (highest_bytes x) (highest_length x))))

  load_between : (n seed : ℕ) → Between set role methods channel n (reverse (load_packets n seed))
  unfolding load_packets
  load_between zero seed = record { calm = tt; count = refl; numbered = λ c o there. absurd (none_at c o there); fresh = λ name after. tt }
    where
      none_at : (c : ℕ) (o : Opening) → slice_get (calls []) c ≡ Some o → ⊥
      none_at c o is = cc
  load_between (suc n) seed =
      let more : n + 1 ≡ suc n = omega arith in
      subst (λ k. Between set role methods channel k (reverse (load_packets n seed ++ call_packets n (number_after (suc n) seed)))) more
      (subst (Between set role methods channel (n + 1)) (sym (reverse-append (load_packets n seed) (call_packets n (number_after (suc n) seed))))
      (call_then n (number_after (suc n) seed) (reverse (load_packets n seed)) (load_between n seed)))

pub loads_are_calm : LoadsAreCalm
loads_are_calm calls seed set few role methods channel =
    subst (AreCalm demo_rule set) (sym (load_heard calls seed few))
    (enough demo_rule set role refl (load_packets calls seed) (Between.calm (load_between set role methods channel calls seed)))
