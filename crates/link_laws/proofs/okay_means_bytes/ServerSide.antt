-- What a server's transfer calls say, where all that came to it was said by the client.
use Rattle.std.proofs.Common.{◌≡◌, ℕ, zero, suc, ◌==◌, ◌||◌, Bool, true, false, if◌then◌else◌, List, [], ◌∷◌, codes, reverse, Some, Result, Ok, inl, inr, refl, sym, ap, ◌∙◌, subst, eq-eqb}
use Rattle.std.proofs.lemmas.Bool.{eqb-true, false≢true}
use Rattle.std.specs.List.{AllByRecursion}
use Rattle.link_io.specs.declared.Shelf.{Shelf}
use Rattle.link_io.specs.Stored.{shelf_of}
use Rattle.rpc_ids.specs.declared.method.MethodRef.{MethodRef}
use Rattle.rpc_ids.specs.declared.method.Role.TheVariants.{Server}
use Rattle.rpc_ids.specs.Names.{name_id}
use Rattle.rpc_ids.specs.Registry.{method_of}
use Rattle.rpc_packet.specs.declared.call_name.CallName.{CallName}
use Rattle.rpc_packet.specs.declared.owned.Packet.{Packet}
use Rattle.rpc_packet.specs.declared.packet_type.PacketType.TheVariants.{ClientStream, ServerStream}
use Rattle.rpc_handlers.specs.declared.answer.Out.TheVariants.{Say}
use Rattle.rpc_handlers.specs.HandlerRule.{HandlerRule}
use Rattle.rpc_journal.specs.declared.entry.Entry.{Entry}
use Rattle.rpc_journal.specs.declared.entry.EntryKind.{EntryKind}
use Rattle.rpc_journal.specs.declared.entry.EntryKind.TheVariants.{Arrive, Invoke, Say as SaysOut, Done, Start, Finish, Replace, Cancel, Tick, Flush, EndIn, Halt, Close}
use Rattle.rpc_journal.specs.declared.item.Act.{Act}
use Rattle.rpc_journal.specs.declared.item.Act.TheVariants.{Send, Keep, LeaveCall}
use Rattle.rpc_journal.specs.declared.item.Item.{Item}
use Rattle.rpc_journal.specs.declared.setting.Setting.{Setting}
use Rattle.rpc_journal.specs.Calls.{call_at, is_cancel_of, is_cancelled}
use Rattle.rpc_journal.specs.Effect.{Opening}
use Rattle.rpc_journal.specs.History.{adding, deeds_of, entry_by, history}
use Rattle.rpc_journal.specs.Items.{arrivals, flush_count, is_for, items_flushed, items_sent, packet_of, packets_of}
use Rattle.rpc_journal.specs.Lawful.{IsLegal}
use Rattle.rpc_journal.proofs.PlaceLemmas.{some_same}
use Rattle.rpc_journal.proofs.Push.{all-reverse}
use Rattle.rpc_schedule.specs.Schedule.{Settles, Stage, Turn, Turns, flush_seat, run_seat}
use Rattle.rpc_schedule.specs.Schedule.Stage.{running, flushing}
use Rattle.rpc_schedule.proofs.ScheduleLemmas.{entries_of}
use Rattle.transfer_chunk.specs.Reading.{chunk_of}
use Rattle.transfer_words.specs.Saying.{Saying}
use Rattle.transfer_words.proofs.SpokenLaws.{words_are_heard}
use Rattle.demo_services.specs.Methods.{demo_methods, transfer_id, transfer_method}
use Rattle.link_laws.specs.uploads.CallItems.{HandlersAct, act_outs, is_handlers_own, item_outs, streamed_out, outs_by}
use Rattle.history_laws.specs.messages.Messages.{BringsTo, HasCall, IsIn, IsOfCall, is_stream}
use Rattle.history_laws.proofs.messages.Arrived.{messages_arrived}
use Rattle.history_laws.proofs.messages.Members.{all_join, all_weaken, in_all, in_made, in_taken, made_of}
use Rattle.history_laws.proofs.messages.Methods.{calls_have_their_methods}
use Rattle.history_laws.proofs.messages.OfCalls.{items_are_of_calls}
use Rattle.link_laws.specs.transfer_calls.Heard.{ComesFrom}
use Rattle.link_laws.specs.transfer_calls.Transfers.{IsTransferCall}
use Rattle.link_laws.specs.world.Hearing.{ServerTakes}
use Rattle.link_laws.specs.world.World.{Setup, packets_flushed}
use Rattle.link_laws.specs.okay_means_bytes.Okay.{IsDemo}
use Rattle.link_laws.proofs.okay_means_bytes.Items.{Known, KnownAct, KnownItem}
use Rattle.link_laws.proofs.okay_means_bytes.Progress.{NotLeft}

-- The entries of a server in a world.
abbrev pub serves : EntryKind → Bool
serves (Arrive p) = true
serves (Start c) = true
serves (Finish c a) = true
serves (Tick t) = true
serves Flush = true
serves EndIn = true
serves (Close channel) = true
serves _ = false

abbrev pub Serves : List Entry → Type 0
Serves h = AllByRecursion (λ e. serves e.kind ≡ true) h

pub serves_more : (h : List Entry) (seat : ℕ) (kind : EntryKind) → serves kind ≡ true → Serves h → Serves (adding h seat kind)
serves_more h seat kind is all = all_join (λ e. serves e.kind ≡ true) h (entry_by seat kind ∷ []) all (is, tt)

module _ (rule : HandlerRule) (set : Setting) where
  turn_serves : (a b : Stage) → Turn rule set a b → Serves (entries_of a) → Serves (entries_of b)
  turn_serves (running h) (running now) ran all = subst Serves (sym ran.adds) (serves_more _ run_seat (Finish ran.call ran.answer) refl (serves_more h run_seat (Start ran.call) refl all))
  turn_serves (running h) (flushing now) turn all = subst Serves (sym turn.1) all
  turn_serves (flushing h) (flushing now) flushed all = subst Serves (sym flushed.adds) (serves_more h flush_seat Flush refl all)
  turn_serves (flushing h) (running now) turn all = subst Serves (sym turn.2) all

  turns_serve : (n : ℕ) (a b : Stage) → Turns rule set n a b → Serves (entries_of a) → Serves (entries_of b)
  turns_serve zero a b same all = subst (λ s. Serves (entries_of s)) same all
  turns_serve (suc n) a b turns all = turns_serve n turns.0 b turns.2 (turn_serves a turns.0 turns.1 all)

  pub settles_serves : (h after : List Entry) → Settles rule set h after → Serves h → Serves after
  settles_serves h after s all = turns_serve s.reaches.0 (running h) (flushing after) s.reaches.1 all

  pub takes_serves : (ps : List Packet) (h after : List Entry) → ServerTakes rule set ps h after → Serves h → Serves after
  takes_serves [] h after same all = subst Serves (sym same) all
  takes_serves (p ∷ ps) h after takes all =
      takes_serves ps takes.0 after takes.2 (settles_serves (adding h 0 (Arrive p)) takes.0 takes.1 (serves_more h 0 (Arrive p) refl all))

handlers_act : (h : List Entry) → Serves h → HandlersAct h
handlers_act h all = all_weaken (λ e. serves e.kind ≡ true) (λ e. is_handlers_own e.kind ≡ true) h (λ e. by_kind e.kind) all
  where
    by_kind : (kind : EntryKind) → serves kind ≡ true → is_handlers_own kind ≡ true
    by_kind (Replace c m) is = absurd (false≢true is)
    by_kind (SaysOut c out) is = absurd (false≢true is)
    by_kind _ is = refl

-- nothing is cancelled at a server
uncut_in : (set : Setting) (es : List Entry) (c : ℕ) → AllByRecursion (λ e. serves e.kind ≡ true) es → is_cancelled (deeds_of set es) c ≡ false
uncut_in set [] c all = refl
uncut_in set (e ∷ es) c all = by_kind e.kind all.0 (uncut_in set es c all.1)
  where
    by_kind : (kind : EntryKind) → serves kind ≡ true → is_cancelled (deeds_of set es) c ≡ false → (is_cancel_of c kind || is_cancelled (deeds_of set es) c) ≡ false
    by_kind (Cancel x) is rest = absurd (false≢true is)
    by_kind (Arrive p) is rest = rest
    by_kind (Invoke p m) is rest = rest
    by_kind (SaysOut x out) is rest = rest
    by_kind (Done x) is rest = rest
    by_kind (Start x) is rest = rest
    by_kind (Finish x a) is rest = rest
    by_kind (Replace x m) is rest = rest
    by_kind (Tick t) is rest = rest
    by_kind Flush is rest = rest
    by_kind EndIn is rest = rest
    by_kind (Halt why) is rest = rest
    by_kind (Close channel) is rest = rest

-- a call that isn't cancelled isn't left by all its works
pub not_left : (set : Setting) (h : List Entry) (c : ℕ) (items : List Item) → is_cancelled (history set h) c ≡ false → ((item : Item) → IsIn item items → IsIn item (items_sent (history set h)))
    → AllByRecursion (λ item. NotLeft c item.call item.act) items
not_left set h c [] uncut within = tt
not_left set h c (item ∷ items) uncut within =
    (at item.act (items_are_of_calls set h item (within item (inl refl))), not_left set h c items uncut (λ x is. within x (inr is)))
  where
    at : (act : Act) → HasCall (history set h) item.call act → NotLeft c item.call act
    at (Send p) has = tt
    at (Keep out) has = tt
    at LeaveCall has = subst (λ o. is_for c o ≡ false) (sym has.is) (by_number (has.number == c) refl)
      where
        by_number : (b : Bool) → (has.number == c) ≡ b → b ≡ false
        by_number false e = refl
        by_number true e = absurd (false≢true (sym uncut ∙ (ap (is_cancelled (history set h)) (sym (eqb-true has.number c e)) ∙ has.cancelled)))

-- the methods of the transfer service
pub named_read : method_of demo_methods transfer_id (name_id (codes "Read")) ≡ Some (transfer_method (codes "Read"))
unfolding name_id
named_read = refl

pub named_write : method_of demo_methods transfer_id (name_id (codes "Write")) ≡ Some (transfer_method (codes "Write"))
unfolding name_id
named_write = refl

-- a call whose name has these ids is of the method
pub method_is : (set : Setting) (h : List Entry) (c : ℕ) (o : Opening) (m : MethodRef) → set.registry ≡ demo_methods → call_at (history set h) c ≡ Some o
    → o.name.service ≡ m.service → o.name.method ≡ m.method → method_of demo_methods m.service m.method ≡ Some m → o.method ≡ m
method_is set h c o m registry there service method named =
    some_same o.method m
    (sym (calls_have_their_methods set h c o there)
    ∙ (ap (λ rows. method_of rows o.name.service o.name.method) registry
    ∙ (ap (λ s. method_of demo_methods s o.name.method) service ∙ (ap (method_of demo_methods m.service) method ∙ named))))

-- the item of a packet that was flushed
pub record ItemOf (items : List Item) (p : Packet) : Type 0 where
  pub item : Item
  pub is_in : IsIn item items
  pub is : item.act ≡ Send p

pub item_of : (items : List Item) (p : Packet) → IsIn p (packets_of items) → ItemOf items p
item_of items p is =
    let made = made_of (λ (item : Item). packet_of item.act) items p is in
    record { item = made.from; is_in = made.is_in; is = by_act made.from.act made.made }
  where
    by_act : (act : Act) → IsIn p (packet_of act) → act ≡ Send p
    by_act (Send q) (inl same) = ap Send (sym same)
    by_act (Send q) (inr none) = absurd none
    by_act (Keep out) none = absurd none
    by_act LeaveCall none = absurd none

ok_same : {A : Type 0} (x y : A) → ◌≡◌ {A = Result A ℕ} (Ok x) (Ok y) → x ≡ y
ok_same x y is = cc

module _ (k : Setup) (demo : IsDemo k) (server client : List Entry) (legal : IsLegal k.rule k.server server) (own : Serves server)
    (sound : (p : Packet) → IsIn p (arrivals server) → IsIn p (packets_flushed k.client client)) (n i : ℕ) (ss : List Saying)
    (items : AllByRecursion (KnownItem n i ss) (items_sent (history k.client client))) where
  abbrev pub shelf : Shelf
  shelf = shelf_of k.server_store

  role : k.server.role ≡ Server
  role = ap (λ (s : Setting). s.role) demo.server

  registry : k.server.registry ≡ demo_methods
  registry = ap (λ (s : Setting). s.registry) demo.server

  -- what came to a transfer call was said by the client
  pub comes : (c : ℕ) (o : Opening) → call_at (history k.server server) c ≡ Some o → o.name.service ≡ transfer_id → ComesFrom k.server server c i ss
  comes c o there service payload chunk is read =
      let b = messages_arrived k.server server c payload is in
      let type : b.packet.ptype ≡ ClientStream = subst (λ r. BringsTo r k.server b.packet) role b.brings in
      let found : ItemOf (items_flushed (history k.client client)) b.packet = item_of _ b.packet (sound b.packet b.came) in
      let sent : IsIn found.item (items_sent (history k.client client)) = in_taken found.item (flush_count (history k.client client)) _ found.is_in in
      let same : b.opening ≡ o = some_same b.opening o (sym b.there ∙ there) in
      let known : Known n i ss b.packet.payload =
      known_by found.item.act b.packet found.is (in_all (KnownItem n i ss) _ found.item items sent) type (ap (λ (x : CallName). x.service) (sym b.name) ∙ (ap (λ (x : Opening). x.name.service) same ∙ service)) in
      let heard = words_are_heard known.session known.word known.small known.fits in
      record {
        in_session = known.session;
        word = known.word;
        is = ok_same _ _ (sym read ∙ (ap chunk_of (sym b.is ∙ known.is) ∙ heard.read));
        small = known.small;
        fits = known.fits;
        own = known.own;
      }
    where
      known_by : (act : Act) (p : Packet) → act ≡ Send p → KnownAct n i ss act → p.ptype ≡ ClientStream → p.name.service ≡ transfer_id → Known n i ss p.payload
      known_by act p is known type service = (subst (KnownAct n i ss) is known) type service

  -- a message that has gone out is of a call with its name
  pub record Told (name : CallName) (payload : List ℕ) : Type 0 where
    pub call : ℕ
    pub opening : Opening
    pub there : call_at (history k.server server) call ≡ Some opening
    pub name_is : opening.name ≡ name
    pub said_there : IsIn (Say payload) (outs_by call (items_flushed (history k.server server)))

  pub told : (p : Packet) → IsIn p (packets_flushed k.server server) → p.ptype ≡ ServerStream → Told p.name p.payload
  told p is type =
      let found : ItemOf (items_flushed (history k.server server)) p = item_of _ p is in
      let sent : IsIn found.item (items_sent (history k.server server)) = in_taken found.item (flush_count (history k.server server)) _ found.is_in in
      let of_call : IsOfCall (history k.server server) found.item.call p =
      subst (HasCall (history k.server server) found.item.call) found.is (items_are_of_calls k.server server found.item sent) (ap is_stream type) in
      record {
        call = of_call.number;
        opening = of_call.opening;
        there = of_call.there;
        name_is = of_call.name;
        said_there = in_made (item_outs of_call.number) (items_flushed (history k.server server)) found.item (Say p.payload) found.is_in (its_out found.item of_call.number found.is of_call.is);
      }
    where
      its_out : (item : Item) (c : ℕ) → item.act ≡ Send p → item.call ≡ Some c → IsIn (Say p.payload) (item_outs c item)
      its_out item c act call =
          subst (λ o. IsIn (Say p.payload) (if is_for c o then act_outs item.act else [])) (sym call)
          (subst (λ b. IsIn (Say p.payload) (if b then act_outs item.act else [])) (sym (eq-eqb c c refl))
          (subst (λ x. IsIn (Say p.payload) (act_outs x)) (sym act)
          (subst (λ y. IsIn (Say p.payload) (streamed_out y p.payload)) (sym type) (inl refl))))

  -- a call with the ids of a transfer method
  pub transfer_call : (name : List ℕ) (c : ℕ) (o : Opening) → call_at (history k.server server) c ≡ Some o → o.name.service ≡ transfer_id → o.name.method ≡ name_id name
      → method_of demo_methods transfer_id (name_id name) ≡ Some (transfer_method name) → IsTransferCall shelf k.window k.chunk k.server server name c
  transfer_call name c o there service method named = record {
    role = role;
    seed = ap (λ (s : Setting). s.seed) demo.server;
    window_high = demo.window;
    chunk_high = demo.chunk;
    legal = subst (λ r. IsLegal r k.server server) demo.rule legal;
    own = handlers_act server own;
    opening = o;
    there = there;
    method = method_is k.server server c o (transfer_method name) registry there service method named;
  }

  pub server_uncut : (c : ℕ) → is_cancelled (history k.server server) c ≡ false
  server_uncut c = uncut_in k.server (reverse server) c (all-reverse (λ e. serves e.kind ≡ true) server own)
