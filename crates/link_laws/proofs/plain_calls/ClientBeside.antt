-- What a client does that concerns only calls with such names, and what stays of transfers.
use Rattle.std.proofs.Common.{◌≡◌, ◌⊎◌, ℕ, zero, suc, ◌≤◌, Bool, true, false, ◌&&◌, ◌==◌, List, [], ◌∷◌, ◌++◌, slice_get, Option, Some, None, refl, ap, sym, ◌∙◌, subst, inl, inr}
use Rattle.std.proofs.lemmas.Bool.{and_left, and_parts, and_right, eqb-true, leb-true, true≢false}
use Rattle.std.specs.List.{AllByRecursion}
use Rattle.std.specs.Prelude.{nat_le}
use Rattle.rpc_ids.specs.Names.{name_id}
use Rattle.rpc_packet.specs.declared.call_name.CallName.{CallName}
use Rattle.rpc_packet.specs.declared.owned.Packet.{Packet}
use Rattle.rpc_handlers.specs.HandlerRule.{HandlerRule}
use Rattle.rpc_journal.specs.declared.entry.Entry.{Entry}
use Rattle.rpc_journal.specs.declared.item.Act.{Act}
use Rattle.rpc_journal.specs.declared.item.Act.TheVariants.{Send, Keep, LeaveCall}
use Rattle.rpc_journal.specs.declared.item.Item.{Item}
use Rattle.rpc_journal.specs.declared.setting.Setting.{Setting}
use Rattle.rpc_journal.specs.Calls.{call_at, calls}
use Rattle.rpc_journal.specs.Effect.{Deed, Opening}
use Rattle.rpc_journal.specs.History.{history}
use Rattle.rpc_journal.specs.Items.{packet_of, packets_of}
use Rattle.demo_services.specs.Methods.{demo_id, transfer_id}
use Rattle.demo_services.specs.Transfer.{transfer_memo}
use Rattle.transfer_resume.specs.declared.side.Side.{Side}
use Rattle.transfer_resume.specs.Book.{Book}
use Rattle.history_laws.specs.rounds.Streams.{IsAtRest}
use Rattle.history_laws.proofs.rounds.RunLemmas.{none_left}
use Rattle.history_laws.proofs.messages.Members.{all_join, all_weaken}
use Rattle.link_laws.specs.world.Client.{ClientSettles, FlushesTo, RunsTo}
use Rattle.history_laws.specs.messages.Messages.{is_stream}
use Rattle.link_laws.specs.world.Reports.{carries_chunk}
use Rattle.link_laws.specs.world.Setup.{quiet_rule}
use Rattle.link_laws.specs.world.Starts.{is_transfer_by}
use Rattle.link_laws.specs.world.World.{Setup, Tasked}
use Rattle.link_laws.specs.plain_calls.Between.{AreUpTo, HasCall, MayTransfer, NoneBySide, OnlyBySide, is_by_side, side_name}
use Rattle.link_laws.proofs.plain_calls.Concerns.{IsSuch, SendsSuch}
use Rattle.link_laws.proofs.plain_calls.Beside.{IsBeside, NoneWaitsBeside, beside_itself, beside_then, flushed_beside, ran_beside}
use Rattle.link_laws.proofs.plain_calls.Spared.{AreQuiet}

-- where an end is at rest nothing waits
pub rest_waits : (such : CallName → Bool) (ds : List Deed) → IsAtRest ds → NoneWaitsBeside such ds
rest_waits such ds rest k x = none_left ds k (rest.taken k)

module _ (such : CallName → Bool) (set : Setting) where
  abbrev Besides : List Entry → List Entry → Type 0
  Besides a b = IsBeside such quiet_rule set (history set a) (history set b)

  same_beside : (a b : List Entry) → b ≡ a → Besides a b
  same_beside a b same = subst (Besides a) (sym same) (beside_itself such quiet_rule set (history set a))

  runs_beside : (n : ℕ) (h after : List Entry) → RunsTo quiet_rule set n h after → NoneWaitsBeside such (history set h) → Besides h after
  runs_beside zero h after same none = same_beside h after same
  runs_beside (suc n) h after runs none =
      let first : Besides h runs.0 = ran_beside such quiet_rule set h runs.0 runs.1 none in
      beside_then such quiet_rule set (history set h) (history set runs.0) (history set after) first (runs_beside n runs.0 after runs.2 (first.waits none))

  flushes_beside : (n : ℕ) (h after : List Entry) → FlushesTo set n h after → Besides h after
  flushes_beside zero h after same = same_beside h after same
  flushes_beside (suc n) h after flushes =
      beside_then such quiet_rule set (history set h) (history set flushes.0) (history set after) (flushed_beside such quiet_rule set h flushes.0 flushes.1)
      (flushes_beside n flushes.0 after flushes.2)

  -- no task speaks
  pub client_settles_beside : (now : ℕ) (before after : List Entry) (next : Option Tasked) → ClientSettles set now before None after next
      → NoneWaitsBeside such (history set before) → Besides before after
  client_settles_beside now before after next s none =
      let first : Besides before s.ran = runs_beside s.run_count before s.ran s.runs none in
      beside_then such quiet_rule set (history set before) (history set s.ran) (history set after) first (flushes_beside s.flush_count s.ran after s.flushes)

-- one of the front, or one that such a fact holds of
pub in_joined : {A : Type 0} (P : A → Type 0) (xs ys : List A) (c : ℕ) (y : A) → AllByRecursion P ys → slice_get (xs ++ ys) c ≡ Some y → (slice_get xs c ≡ Some y) ⊎ P y
in_joined P [] [] c y all there = absurd cc
in_joined P [] (x ∷ ys) zero y all there = inr (subst P (the_same x y there) all.0)
  where
    the_same : {A : Type 0} (a b : A) → Some a ≡ Some b → a ≡ b
    the_same a b is = cc
in_joined P [] (x ∷ ys) (suc c) y all there = later (in_joined P [] ys c y all.1 there)
  where
    later : (slice_get [] c ≡ Some y) ⊎ P y → (slice_get [] (suc c) ≡ Some y) ⊎ P y
    later (inl none) = absurd cc
    later (inr holds) = inr holds
in_joined P (x ∷ xs) ys zero y all there = inl there
in_joined P (x ∷ xs) ys (suc c) y all there = in_joined P xs ys c y all there

module _ (such : CallName → Bool) (rule : HandlerRule) (set : Setting) (ds now : List Deed) (b : IsBeside such rule set ds now) where
  -- such a call is one still
  pub such_stays : (c : ℕ) → IsSuch such ds c → IsSuch such now c
  such_stays c is o there = at (in_joined (λ (x : Opening). such x.name ≡ true) (calls ds) b.opened c o b.opened_such (ap (λ os. slice_get os c) (sym b.calls_are) ∙ there))
    where
      at : (slice_get (calls ds) c ≡ Some o) ⊎ (such o.name ≡ true) → such o.name ≡ true
      at (inl before) = is o before
      at (inr own) = own

-- the names of plain calls, up to a number
abbrev pub plain_name : ℕ → CallName → Bool
plain_name n name = (name.service == demo_id) && nat_le name.call n

services_differ : (transfer_id == demo_id) ≡ false
unfolding name_id
services_differ = refl

differ_back : (demo_id == transfer_id) ≡ false
unfolding name_id
differ_back = refl

-- a packet of a plain call carries no chunk
pub plain_is_quiet : (n : ℕ) (p : Packet) → plain_name n p.name ≡ true → carries_chunk p ≡ false
plain_is_quiet n p is =
    let service : p.name.service ≡ demo_id = eqb-true p.name.service demo_id (and_parts (p.name.service == demo_id) (nat_le p.name.call n) is).0 in
    and_right (is_stream p.ptype) (p.name.service == transfer_id) (ap (λ s. s == transfer_id) service ∙ differ_back)

pub all_quiet : (n : ℕ) (ps : List Packet) → AllByRecursion (λ p. plain_name n p.name ≡ true) ps → AreQuiet ps
all_quiet n ps all = all_weaken (λ (p : Packet). plain_name n p.name ≡ true) (λ (p : Packet). carries_chunk p ≡ false) ps (plain_is_quiet n) all

pub transfers_other : (n method : ℕ) (o : Opening) → is_transfer_by method o ≡ true → plain_name n o.name ≡ false
transfers_other n method o is =
    and_left (o.name.service == demo_id) (nat_le o.name.call n)
    (ap (λ s. s == demo_id) (eqb-true o.name.service transfer_id (and_parts (o.name.service == transfer_id) (o.name.method == method) is).0) ∙ services_differ)

-- the packets among items have such names
pub packets_such : (such : CallName → Bool) (items : List Item) → AllByRecursion (λ item. SendsSuch such item.act) items
    → AllByRecursion (λ p. such p.name ≡ true) (packets_of items)
packets_such such [] all = tt
packets_such such (item ∷ items) all = all_join (λ (p : Packet). such p.name ≡ true) (packet_of item.act) (packets_of items) (at item.act all.0) (packets_such such items all.1)
  where
    at : (act : Act) → SendsSuch such act → AllByRecursion (λ p. such p.name ≡ true) (packet_of act)
    at (Send p) is = (is, tt)
    at (Keep out) is = tt
    at LeaveCall is = tt

-- A TRANSFER'S CALL STAYS OPEN where plain calls do their work
module _ (k : Setup) (n : ℕ) (fits : Book → Type 0) (side : Side) where
  -- a call of a transfer that is there then was there before
  transfer_before : (rule : HandlerRule) (set : Setting) (ds after : List Deed) → IsBeside (plain_name n) rule set ds after → (c : ℕ) (o : Opening) → call_at after c ≡ Some o
      → is_by_side side o ≡ true → call_at ds c ≡ Some o
  transfer_before rule set ds after b c o there is =
      at (in_joined (λ (x : Opening). plain_name n x.name ≡ true) (calls ds) b.opened c o b.opened_such (ap (λ os. slice_get os c) (sym b.calls_are) ∙ there))
    where
      at : (slice_get (calls ds) c ≡ Some o) ⊎ (plain_name n o.name ≡ true) → call_at ds c ≡ Some o
      at (inl before) = before
      at (inr plain) = absurd (true≢false (sym plain ∙ transfers_other n (name_id (side_name side)) o is))

  none_still : (rule : HandlerRule) (set : Setting) (ds after : List Deed) → IsBeside (plain_name n) rule set ds after → NoneBySide side ds → NoneBySide side after
  none_still rule set ds after b none c o there = at (is_by_side side o) refl
    where
      at : (t : Bool) → is_by_side side o ≡ t → is_by_side side o ≡ false
      at false is = is
      at true is = none c o (transfer_before rule set ds after b c o there is)

  only_still : (rule : HandlerRule) (set : Setting) (ds after : List Deed) (only : ℕ) → IsBeside (plain_name n) rule set ds after → OnlyBySide side ds only → OnlyBySide side after only
  only_still rule set ds after only b alone c o there is = alone c o (transfer_before rule set ds after b c o there is) is

  server_keeps_call : (server after client : List Deed) → IsBeside (plain_name n) k.rule k.server server after → IsAtRest server → HasCall k server client fits side
      → HasCall k after client fits side
  server_keeps_call server after client b rest h = record {
    at_client = h.at_client;
    client_opening = h.client_opening;
    client_memo = h.client_memo;
    client_stream = h.client_stream;
    undone = h.undone;
    by_method = h.by_method;
    on_channel = h.on_channel;
    only = h.only;
    at_server = h.at_server;
    server_opening = h.server_opening;
    book = h.book;
    server_stream = (b.streams h.at_server h.server_opening (transfer_memo h.book) other (record { waits = none_left server h.at_server (rest.taken h.at_server); stream = h.server_stream })).stream;
    same_name = h.same_name;
    only_server = only_still k.rule k.server server after h.at_server b h.only_server;
    book_fits = h.book_fits;
  }
    where
      other : plain_name n h.server_opening.name ≡ false
      other = ap (plain_name n) h.same_name ∙ transfers_other n (name_id (side_name side)) h.client_opening h.by_method

  client_keeps_call : (server client after : List Deed) → IsBeside (plain_name n) quiet_rule k.client client after → IsAtRest client → HasCall k server client fits side
      → HasCall k server after fits side
  client_keeps_call server client after b rest h = record {
    at_client = h.at_client;
    client_opening = h.client_opening;
    client_memo = h.client_memo;
    client_stream = (b.streams h.at_client h.client_opening h.client_memo other (record { waits = none_left client h.at_client (rest.taken h.at_client); stream = h.client_stream })).stream;
    undone = b.done h.at_client (record { opening = h.client_opening; there = h.client_stream.opened; other = other }) ∙ h.undone;
    by_method = h.by_method;
    on_channel = h.on_channel;
    only = only_still quiet_rule k.client client after h.at_client b h.only;
    at_server = h.at_server;
    server_opening = h.server_opening;
    book = h.book;
    server_stream = h.server_stream;
    same_name = h.same_name;
    only_server = h.only_server;
    book_fits = h.book_fits;
  }
    where
      other : plain_name n h.client_opening.name ≡ false
      other = transfers_other n (name_id (side_name side)) h.client_opening h.by_method

  pub server_keeps_transfer : (server after client : List Deed) → IsBeside (plain_name n) k.rule k.server server after → IsAtRest server
      → MayTransfer k server client fits side → MayTransfer k after client fits side
  server_keeps_transfer server after client b rest (inl none) = inl (record { client = none.client; server = none_still k.rule k.server server after b none.server })
  server_keeps_transfer server after client b rest (inr h) = inr (server_keeps_call server after client b rest h)

  pub client_keeps_transfer : (server client after : List Deed) → IsBeside (plain_name n) quiet_rule k.client client after → IsAtRest client
      → MayTransfer k server client fits side → MayTransfer k server after fits side
  client_keeps_transfer server client after b rest (inl none) = inl (record { client = none_still quiet_rule k.client client after b none.client; server = none.server })
  client_keeps_transfer server client after b rest (inr h) = inr (client_keeps_call server client after b rest h)

-- no new call has a larger number
pub names_stay : (n : ℕ) (rule : HandlerRule) (set : Setting) (ds now : List Deed) → IsBeside (plain_name n) rule set ds now → AreUpTo n ds → AreUpTo n now
names_stay n rule set ds now b names =
    subst (AllByRecursion (λ (o : Opening). o.name.call ≤ n)) (sym b.calls_are) (all_join (λ (o : Opening). o.name.call ≤ n) (calls ds) b.opened names (small b.opened b.opened_such))
  where
    small : (os : List Opening) → AllByRecursion (λ (o : Opening). plain_name n o.name ≡ true) os → AllByRecursion (λ (o : Opening). o.name.call ≤ n) os
    small [] all = tt
    small (o ∷ os) all = (leb-true o.name.call n (and_parts (o.name.service == demo_id) (nat_le o.name.call n) all.0).1, small os all.1)
