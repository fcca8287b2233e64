-- The client's work in a turn keeps what stands of its task.
use Rattle.std.proofs.Common.{◌≡◌, ◌⊎◌, ℕ, true, List, [], ◌∷◌, codes, Option, Some, None, inl, inr, refl, sym, ap, ◌∙◌, subst}
use Rattle.std.proofs.lemmas.Bool.{true≢false}
use Rattle.std.proofs.lemmas.List.{append-nil}
use Rattle.std.specs.List.{AllByRecursion}
use Rattle.link_io.specs.Resources.{first_of}
use Rattle.link_io.specs.Stored.{shelf_of}
use Rattle.rpc_ids.specs.declared.method.MethodRef.{MethodRef}
use Rattle.rpc_ids.specs.declared.method.Role.TheVariants.{Client}
use Rattle.rpc_packet.specs.declared.call_name.CallName.{CallName}
use Rattle.rpc_packet.specs.declared.owned.Packet.{Packet}
use Rattle.rpc_packet.specs.declared.packet_type.PacketType.TheVariants.{ServerStream}
use Rattle.rpc_handlers.specs.declared.answer.Out.{Out}
use Rattle.rpc_handlers.specs.declared.answer.Out.TheVariants.{Say as Message}
use Rattle.rpc_handlers.specs.declared.event.Event.TheVariants as event
use Rattle.rpc_journal.specs.declared.entry.Entry.{Entry}
use Rattle.rpc_journal.specs.declared.entry.EntryKind.TheVariants.{Arrive}
use Rattle.rpc_journal.specs.declared.setting.Setting.{Setting}
use Rattle.rpc_journal.specs.Effect.{Opening}
use Rattle.rpc_journal.specs.History.{adding, entry_by, history}
use Rattle.rpc_journal.specs.Items.{arrivals, flush_count, items_flushed, items_sent}
use Rattle.rpc_journal.specs.Lawful.{IsLegal}
use Rattle.rpc_journal.specs.Kinds.{streams_down}
use Rattle.rpc_journal.specs.Rows.{method_named}
use Rattle.rpc_journal.proofs.PlaceLemmas.{some_same}
use Rattle.rpc_schedule.specs.Schedule.{input_seat}
use Rattle.rpc_schedule.proofs.EntryLemmas.{arrivals-push}
use Rattle.transfer_words.specs.Word.{Word}
use Rattle.transfer_words.specs.Saying.{Saying}
use Rattle.transfer_client.specs.Polling.{heard_word}
use Rattle.transfer_client.specs.Read.{Download, read_rules}
use Rattle.demo_services.specs.Methods.{demo_methods, transfer_id, transfer_method}
use Rattle.link_laws.specs.uploads.CallItems.{item_outs, outs_by}
use Rattle.history_laws.specs.messages.Messages.{BringsTo, IsIn}
use Rattle.history_laws.proofs.messages.Arrived.{messages_arrived}
use Rattle.history_laws.proofs.messages.Members.{in_either, in_made, in_taken, made_of}
use Rattle.history_laws.proofs.messages.Methods.{calls_have_their_methods}
use Rattle.transfer_laws.specs.words.Tasks.{AsksFor, HasToldOkay, HearsContent, HearsOf, Poll, said_over}
use Rattle.transfer_laws.proofs.words.Downloads.{reads_make_whole, told_more}
use Rattle.link_laws.proofs.transfer_calls.Reading.{reads_tell_the_truth}
use Rattle.link_laws.specs.world.Client.{ClientSettles, ClientTakes, RunsTo, events_run, mail_between, task_after, task_said, transfer_polled}
use Rattle.link_laws.specs.world.Setup.{quiet_rule}
use Rattle.link_laws.specs.world.World.{Setup, Tasked, Transfer, packets_flushed, reads, writes}
use Rattle.link_script.specs.declared.command.Command.{Command}
use Rattle.link_laws.proofs.one_run.Growing.{client_settles_goes, runs_go}
use Rattle.link_laws.specs.okay_means_bytes.Okay.{IsDemo}
use Rattle.link_laws.proofs.okay_means_bytes.Items.{ClientInv, quiet_inv}
use Rattle.link_laws.proofs.okay_means_bytes.ServerSide.{Serves, Told, comes, method_is, named_read, named_write, told, transfer_call}
use Rattle.link_laws.proofs.okay_means_bytes.Speaks.{How, Speaks, Speech, TruthOf, flushes_keep, poll_speaks, runs_keep, said_reads, said_t, sayings_of, speaks_quiet, stood_t}

-- what has gone out of a call was said
pub flushed_sent : (set : Setting) (h : List Entry) (c : ℕ) (out : Out) → IsIn out (outs_by c (items_flushed (history set h))) → IsIn out (outs_by c (items_sent (history set h)))
flushed_sent set h c out is =
    let made = made_of (item_outs c) (items_flushed (history set h)) out is in
    in_made (item_outs c) (items_sent (history set h)) made.from out (in_taken made.from (flush_count (history set h)) (items_sent (history set h)) made.is_in) made.made

module _ (k : Setup) (commands : List Command) (demo : IsDemo k) where
  pub client_role : k.client.role ≡ Client
  client_role = ap (λ (s : Setting). s.role) demo.client

  client_registry : k.client.registry ≡ demo_methods
  client_registry = ap (λ (s : Setting). s.registry) demo.client

  -- what a task hears of these packets of the server
  abbrev pub TellTruth : Speech → Type 0 → List Packet → Type 0
  TellTruth x T down =
      (p : Packet) → IsIn p down → p.ptype ≡ ServerStream → x.opening.name ≡ p.name → (w : Word) → heard_word x.session p.payload ≡ Some w → TruthOf k x.begun T w

  -- the call of a transfer has a stream from the server
  pub call_streams : (h : List Entry) (n : ℕ) (x : Speech) (t : Tasked) (ps : List Poll) → Speaks k commands h n x t ps → (method_named k.client x.opening.name ≡ Some x.opening.method) × (streams_down x.opening.method.kind ≡ true)
  call_streams h n x t ps s = (calls_have_their_methods k.client h x.call x.opening s.there, by_how x.begun s.how)
    where
      by_how : (b : Transfer) → How k commands x.number x.session x.opening ps b → streams_down x.opening.method.kind ≡ true
      by_how (reads d) how =
          ap (λ (m : MethodRef). streams_down m.kind) (method_is k.client h x.call x.opening (transfer_method (codes "Read")) client_registry s.there s.service how.method named_read)
      by_how (writes u) how =
          ap (λ (m : MethodRef). streams_down m.kind) (method_is k.client h x.call x.opening (transfer_method (codes "Write")) client_registry s.there s.service how.method named_write)

  -- a message that a transfer's call took came in a packet of the server's stream
  pub record CameIn (x : Speech) (down : List Packet) (text : List ℕ) : Type 0 where
    pub packet : Packet
    pub is_down : IsIn packet down
    pub type : packet.ptype ≡ ServerStream
    pub name : x.opening.name ≡ packet.name
    pub is : packet.payload ≡ text

  pub came_in_packet : (h : List Entry) (n : ℕ) (x : Speech) (t : Tasked) (ps : List Poll) (down : List Packet) → Speaks k commands h n x t ps → ((p : Packet) → IsIn p (arrivals h) → IsIn p down)
      → (text : List ℕ) → IsIn (event.Message text) (events_run k.client h x.call) → CameIn x down text
  came_in_packet h n x t ps down s within text is =
      let b = messages_arrived k.client h x.call text is in
      let same : b.opening ≡ x.opening = some_same b.opening x.opening (sym b.there ∙ s.there) in
      let name : x.opening.name ≡ b.packet.name = sym (ap (λ (o : Opening). o.name) same) ∙ b.name in
      record {
        packet = b.packet;
        is_down = within b.packet b.came;
        type = by_way b.packet name (subst (λ r. BringsTo r k.client b.packet) client_role b.brings);
        name = name;
        is = b.is;
      }
    where
      by_way : (p : Packet) → x.opening.name ≡ p.name → BringsTo Client k.client p → p.ptype ≡ ServerStream
      by_way p name (inl type) = type
      by_way p name (inr none) =
          let streams = call_streams h n x t ps s in
          absurd (true≢false (sym streams.1 ∙ none x.opening.method (ap (method_named k.client) (sym name) ∙ streams.0)))

  -- where the task stands behind some work
  pub record Spoke (after : List Entry) (next : Option Tasked) (n : ℕ) (x : Speech) (T : Type 0) : Type 0 where
    pub task : Tasked
    pub ps : List Poll
    pub next_is : next ≡ Some task
    pub speaks : Speaks k commands after n x task ps
    pub told_before : T → HasToldOkay (said_t x.session x.begun ps)

  runs_within : (count : ℕ) (h ran : List Entry) → RunsTo quiet_rule k.client count h ran → (down : List Packet) → ((p : Packet) → IsIn p (arrivals h) → IsIn p down) → (p : Packet) → IsIn p (arrivals ran) → IsIn p down
  runs_within count h ran runs down within p is =
      within p (subst (IsIn p) (append-nil (arrivals h)) (subst (IsIn p) (runs_go quiet_rule k.client count h ran runs).arrived is))

  pub settles_speaks : (before : List Entry) (n : ℕ) (x : Speech) (t : Tasked) (ps : List Poll) (now : ℕ) (T : Type 0) (down : List Packet) (after : List Entry) (next : Option Tasked)
      → Speaks k commands before n x t ps → (T → HasToldOkay (said_t x.session x.begun ps)) → ((p : Packet) → IsIn p (arrivals before) → IsIn p down) → TellTruth x T down
      → ClientSettles k.client now before (Some t) after next → Spoke after next n x T
  settles_speaks before n x t ps now T down after next s told_T within truth settles =
      let ran : List Entry = settles.ran in
      let here : Speaks k commands ran n x t ps =
      runs_keep k.client (λ h. Speaks k commands h n x t ps) (λ h seat kind quiet speaks. speaks_quiet k commands client_role h n x t ps seat kind quiet speaks) settles.run_count before ran settles.runs s in
      let mail = mail_between k.client before ran x.call in
      let stood_now : Transfer = stood_t x.session x.begun ps in
      let t' : Tasked = record { call = x.call; session = x.session; transfer = transfer_polled x.session stood_now mail now } in
      let ps' : List Poll = record { mail = mail; moment = now } ∷ ps in
      let as_record : Tasked = record { call = x.call; session = x.session; transfer = stood_now } in
      let within_ran = runs_within settles.run_count before ran settles.runs down within in
      let said = poll_speaks k commands demo client_role before ran n x t ps now T here told_T
      (λ text is w heard. (let c : CameIn x down text = came_in_packet ran n x t ps down here within_ran text is in truth c.packet c.is_down c.type c.name w (ap (heard_word x.session) c.is ∙ heard))) in
      let flushed : Speaks k commands after n x t' ps' =
      flushes_keep k.client (λ h. Speaks k commands h n x t' ps') (λ h seat kind quiet speaks. speaks_quiet k commands client_role h n x t' ps' seat kind quiet speaks) settles.flush_count
      (task_said k.client now before ran (Some t)) after settles.flushes
      (subst (λ y. Speaks k commands (task_said k.client now before ran (Some y)) n x t' ps') (sym s.is) said) in
      record {
        task = t';
        ps = ps';
        next_is = settles.task_is ∙ ap (λ y. task_after k.client now before ran (Some y)) s.is;
        speaks = flushed;
        told_before = λ is. told_more (said_t x.session x.begun ps) (sayings_of x.session stood_now mail now) (told_T is);
      }

  arrivals_adding : (h : List Entry) (p : Packet) (ps : List Packet) (down : List Packet) → ((q : Packet) → IsIn q (arrivals h) → IsIn q down) → ((q : Packet) → IsIn q (p ∷ ps) → IsIn q down)
      → (q : Packet) → IsIn q (arrivals (adding h input_seat (Arrive p))) → IsIn q down
  arrivals_adding h p ps down old new q is = at (in_either q (arrivals h) (p ∷ []) (subst (IsIn q) (arrivals-push h (entry_by input_seat (Arrive p))) is))
    where
      at : IsIn q (arrivals h) ⊎ IsIn q (p ∷ []) → IsIn q down
      at (inl before) = old q before
      at (inr (inl same)) = new q (inl same)
      at (inr (inr none)) = absurd none

  pub takes_speaks : (qs : List Packet) (h : List Entry) (n : ℕ) (x : Speech) (t : Tasked) (ps : List Poll) (now : ℕ) (T : Type 0) (down : List Packet) (after : List Entry) (next : Option Tasked)
      → Speaks k commands h n x t ps → (T → HasToldOkay (said_t x.session x.begun ps)) → ((p : Packet) → IsIn p (arrivals h) → IsIn p down) → ((p : Packet) → IsIn p qs → IsIn p down)
      → TellTruth x T down → ClientTakes k.client now qs h (Some t) after next → Spoke after next n x T
  takes_speaks [] h n x t ps now T down after next s told_T old new truth takes =
      record { task = t; ps = ps; next_is = takes.1; speaks = subst (λ g. Speaks k commands g n x t ps) (sym takes.0) s; told_before = told_T }
  takes_speaks (q ∷ qs) h n x t ps now T down after next s told_T old new truth takes =
      let opened : List Entry = adding h input_seat (Arrive q) in
      let within_opened = arrivals_adding h q qs down old new in
      let mid : Spoke takes.0 takes.1 n x T =
      settles_speaks opened n x t ps now T down takes.0 takes.1 (speaks_quiet k commands client_role h n x t ps input_seat (Arrive q) tt s) told_T within_opened truth takes.2 in
      takes_speaks qs takes.0 n x mid.task mid.ps now T down after next mid.speaks mid.told_before
      (λ p is. within_opened p (subst (IsIn p) ((client_settles_goes k.client now opened (Some t) takes.0 takes.1 takes.2).arrived ∙ append-nil (arrivals opened)) is))
      (λ p is. new p (inr is)) truth (subst (λ y. ClientTakes k.client now qs takes.0 y after next) mid.next_is takes.3)

  -- no task speaks
  pub settles_inv : (before : List Entry) (n i : ℕ) (ss : List Saying) (now : ℕ) (after : List Entry) (next : Option Tasked) → ClientInv k.client before n i ss
      → ClientSettles k.client now before None after next → ClientInv k.client after n i ss
  settles_inv before n i ss now after next inv settles =
      flushes_keep k.client (λ h. ClientInv k.client h n i ss) (λ h seat kind quiet is. quiet_inv k.client client_role h seat kind quiet n i ss is) settles.flush_count settles.ran after settles.flushes
      (runs_keep k.client (λ h. ClientInv k.client h n i ss) (λ h seat kind quiet is. quiet_inv k.client client_role h seat kind quiet n i ss is) settles.run_count before settles.ran settles.runs inv)

  pub takes_inv : (qs : List Packet) (h : List Entry) (n i : ℕ) (ss : List Saying) (now : ℕ) (after : List Entry) (next : Option Tasked) → ClientInv k.client h n i ss
      → ClientTakes k.client now qs h None after next → ClientInv k.client after n i ss
  takes_inv [] h n i ss now after next inv takes = subst (λ g. ClientInv k.client g n i ss) (sym takes.0) inv
  takes_inv (q ∷ qs) h n i ss now after next inv takes =
      let mid : ClientInv k.client takes.0 n i ss =
      settles_inv (adding h input_seat (Arrive q)) n i ss now takes.0 takes.1 (quiet_inv k.client client_role h input_seat (Arrive q) tt n i ss inv) takes.2 in
      takes_inv qs takes.0 n i ss now after next mid (subst (λ y. ClientTakes k.client now qs takes.0 y after next) takes.2.task_is takes.3)

  -- WHAT A READ HEARS OF THE SERVER IS TRUE, where all that came to the server was said by the client
  pub server_truth : (server client : List Entry) (n : ℕ) (x : Speech) (t : Tasked) (ps : List Poll) → Speaks k commands client n x t ps → IsLegal k.rule k.server server → Serves server
      → ((p : Packet) → IsIn p (arrivals server) → IsIn p (packets_flushed k.client client)) → TellTruth x (HasToldOkay (said_t x.session x.begun ps)) (packets_flushed k.server server)
  server_truth server client n x t ps s legal own sound p is type name w heard = by_begun x.begun refl s.how
    where
      found : Told k demo server client legal own sound n x.session (said_t x.session x.begun ps) s.inv.items p.name p.payload
      found = told k demo server client legal own sound n x.session (said_t x.session x.begun ps) s.inv.items p is type

      service : found.opening.name.service ≡ transfer_id
      service = ap (λ (y : CallName). y.service) (found.name_is ∙ sym name) ∙ s.service

      by_begun : (b : Transfer) → x.begun ≡ b → How k commands x.number x.session x.opening ps b → TruthOf k b (HasToldOkay (said_t x.session b ps)) w
      by_begun (writes u) e how = tt
      by_begun (reads d) e how =
          let asks : AllByRecursion (AsksFor how.resource how.asked) (said_over read_rules x.session d ps) =
          subst (λ y. HearsContent x.session (first_of d.resource k.server_store.full) y ps → AllByRecursion (AsksFor how.resource how.asked) (said_over read_rules x.session y ps)) (sym how.is)
          (λ hears. (reads_make_whole x.session how.resource how.asked k.window k.chunk (first_of d.resource k.server_store.full) ps how.r_small how.a_small demo.window demo.chunk hears).asks) how.hears in
          let said_is : (said_t x.session x.begun ps) ≡ said_over read_rules x.session d ps = ap (λ y. said_t x.session y ps) e ∙ said_reads x.session d ps in
          let resource_is : d.resource ≡ how.resource = ap (λ (y : Download). y.resource) how.is in
          let call = transfer_call k demo server client legal own sound n x.session (said_t x.session x.begun ps) s.inv.items (codes "Read") found.call found.opening found.there service
          (ap (λ (y : CallName). y.method) (found.name_is ∙ sym name) ∙ how.method) named_read in
          let truth : HearsOf (first_of how.resource k.server_store.full) (HasToldOkay (said_t x.session x.begun ps)) w =
          reads_tell_the_truth (shelf_of k.server_store) k.window k.chunk k.server server found.call x.session how.resource how.asked (said_t x.session x.begun ps) p.payload w call
          (comes k demo server client legal own sound n x.session (said_t x.session x.begun ps) s.inv.items found.call found.opening found.there service)
          (subst (AllByRecursion (AsksFor how.resource how.asked)) (sym said_is) asks)
          (flushed_sent k.server server found.call (Message p.payload) found.said_there) heard in
          subst (λ r. HearsOf (first_of r k.server_store.full) (HasToldOkay (said_t x.session (reads d) ps)) w) (sym resource_is)
          (subst (λ y. HearsOf (first_of how.resource k.server_store.full) (HasToldOkay (said_t x.session y ps)) w) e truth)
