-- The calls that commands open at the client, or use again.
use Rattle.std.proofs.Common.{◌≡◌, ℕ, zero, suc, ◌+◌, ◌≤◌, ◌==◌, ◌&&◌, not, Bool, true, false, if◌then◌else◌, List, [], ◌∷◌, ◌++◌, codes, slice_get, Some, option_to_list, refl, sym, ap, ◌∙◌, arith}
use Rattle.std.proofs.lemmas.Bool.{and_parts, eqb-true, false≢true, ne_eqb}
use Rattle.std.specs.List.{AllByRecursion}
use Rattle.rpc_ids.specs.declared.method.MethodRef.{MethodRef}
use Rattle.rpc_ids.specs.declared.method.Kind.TheVariants.{Unary, ServerStream, ClientStream, Bidi}
use Rattle.rpc_ids.specs.Names.{name_id}
use Rattle.rpc_ids.specs.Registry.{method_of}
use Rattle.rpc_packet.specs.declared.owned.Packet.{Packet}
use Rattle.rpc_packet.specs.declared.packet_type.PacketType.{PacketType}
use Rattle.rpc_packet.specs.declared.packet_type.PacketType.TheVariants as type
use Rattle.rpc_handlers.specs.declared.answer.Out.{Out}
use Rattle.rpc_handlers.specs.declared.answer.Out.TheVariants.{Say as Message, Begin, Append, Commit, Leave}
use Rattle.rpc_handlers.specs.declared.event.Memo.{Memo}
use Rattle.rpc_journal.specs.declared.entry.Entry.{Entry}
use Rattle.rpc_journal.specs.declared.entry.EntryKind.TheVariants.{Invoke}
use Rattle.rpc_journal.specs.declared.item.Act.{Act}
use Rattle.rpc_journal.specs.declared.item.Act.TheVariants.{Send, Keep, LeaveCall}
use Rattle.rpc_journal.specs.declared.item.Item.{Item}
use Rattle.rpc_journal.specs.declared.setting.Setting.{Setting}
use Rattle.rpc_journal.specs.Calls.{call_at, call_count, calls, has_end}
use Rattle.rpc_journal.specs.Effect.{Deed, Opening}
use Rattle.rpc_journal.specs.Entries.{invoke_effect, made_from}
use Rattle.rpc_journal.specs.History.{adding, history}
use Rattle.rpc_journal.specs.Items.{is_for, items_sent}
use Rattle.rpc_journal.specs.Rows.{method_named}
use Rattle.rpc_journal.proofs.PlaceLemmas.{get_last}
use Rattle.transfer_words.specs.Saying.{Saying}
use Rattle.demo_services.specs.Methods.{demo_id, demo_method, demo_methods, transfer_id}
use Rattle.link_laws.specs.uploads.CallItems.{act_outs, streamed_out}
use Rattle.link_laws.specs.uploads.Uploads.{deeds_by, deeds_in}
use Rattle.link_laws.specs.world.Starts.{is_transfer_by, live_transfers}
use Rattle.link_laws.proofs.okay_means_bytes.Items.{ClientInv, KnownAct, KnownItem, added_deed, deeds_more, one_deeds, session_of}

-- a call that is opened is there
pub opened_at : (set : Setting) (h : List Entry) (seat : ℕ) (p : Packet) (m : Memo) (method : MethodRef) → method_named set p.name ≡ Some method
    → call_at (history set (adding h seat (Invoke p m))) (call_count (history set h)) ≡ Some (record { name = p.name; method = method; given = Some m })
opened_at set h seat p m method named =
    ap (λ ds. call_at ds (call_count (history set h))) (added_deed set h seat (Invoke p m))
    ∙ (ap (λ o. slice_get (calls (history set h) ++ option_to_list (invoke_effect (history set h) p m o).opens) (call_count (history set h))) named
    ∙ get_last (calls (history set h)) (record { name = p.name; method = method; given = Some m }))

-- a live call of a transfer method
pub record IsLiveTransfer (ds : List Deed) (method c : ℕ) : Type 0 where
  pub opening : Opening
  pub there : call_at ds c ≡ Some opening
  pub service : opening.name.service ≡ transfer_id
  pub method_is : opening.name.method ≡ method

record Placed (os : List Opening) (n method c : ℕ) : Type 0 where
  place : ℕ
  opening : Opening
  there : slice_get os place ≡ Some opening
  number : c ≡ n + place
  is : is_transfer_by method opening ≡ true

first_placed : (ds : List Deed) (method : ℕ) (os : List Opening) (n c : ℕ) (cs : List ℕ) → made_from n (λ k o. is_transfer_by method o && not (has_end ds k)) (λ k o. k) os ≡ c ∷ cs → Placed os n method c
first_placed ds method [] n c cs is = absurd cc
first_placed ds method (o ∷ os) n c cs is = at (is_transfer_by method o && not (has_end ds n)) refl is (λ later. first_placed ds method os (n + 1) c cs later)
  where
    behind : Placed os (n + 1) method c → Placed (o ∷ os) n method c
    behind p = record { place = suc p.place; opening = p.opening; there = p.there; number = omega (arith, p.number); is = p.is }

    at : (b : Bool) → (is_transfer_by method o && not (has_end ds n)) ≡ b
        → (if b then n ∷ made_from (n + 1) (λ k x. is_transfer_by method x && not (has_end ds k)) (λ k x. k) os else made_from (n + 1) (λ k x. is_transfer_by method x && not (has_end ds k)) (λ k x. k) os) ≡ c ∷ cs
        → (made_from (n + 1) (λ k x. is_transfer_by method x && not (has_end ds k)) (λ k x. k) os ≡ c ∷ cs → Placed os (n + 1) method c) → Placed (o ∷ os) n method c
    at true e is more = let here : n ≡ c = cc in record { place = zero; opening = o; there = refl; number = omega (arith, here); is = (and_parts (is_transfer_by method o) (not (has_end ds n)) e).0 }
    at false e is more = behind (more is)

pub live_at : (ds : List Deed) (method c : ℕ) (cs : List ℕ) → live_transfers method ds ≡ c ∷ cs → IsLiveTransfer ds method c
live_at ds method c cs is =
    let p : Placed (calls ds) zero method c = first_placed ds method (calls ds) zero c cs is in
    let both = and_parts _ _ p.is in
    record {
      opening = p.opening;
      there = ap (call_at ds) (place_is c p.place p.number) ∙ p.there;
      service = eqb-true p.opening.name.service transfer_id both.0;
      method_is = eqb-true p.opening.name.method method both.1;
    }
  where
    place_is : (a b : ℕ) → a ≡ zero + b → a ≡ b
    place_is a b e = omega (arith, e)

-- A session that begins: nothing was said or done in it.
fresh_known : (n i : ℕ) (ss : List Saying) (items : List Item) → AllByRecursion (KnownItem n i ss) items → AllByRecursion (KnownItem (n + 1) (n + 1) []) items
fresh_known n i ss [] all = tt
fresh_known n i ss (item ∷ items) all = (at item.act all.0, fresh_known n i ss items all.1)
  where
    at : (act : Act) → KnownAct n i ss act → KnownAct (n + 1) (n + 1) [] act
    at (Send p) known = λ type service.
        (let was = known type service in
        record { session = was.session; word = was.word; is = was.is; low = omega (arith, was.low); small = was.small; fits = was.fits; own = λ same. (let low = was.low in absurd (omega arith)) })
    at (Keep out) low = omega (arith, low)
    at LeaveCall known = tt

pub fresh_inv : (set : Setting) (h : List Entry) (n i : ℕ) (ss : List Saying) → ClientInv set h n i ss → ClientInv set h (n + 1) (n + 1) []
fresh_inv set h n i ss inv = record { items = fresh_known n i ss (items_sent (history set h)) inv.items; cuts = inv.cuts }

no_message : (session : ℕ) (t : PacketType) (payload : List ℕ) → deeds_in session (streamed_out t payload) ≡ []
no_message session type.Request payload = refl
no_message session type.Response payload = refl
no_message session type.ClientStream payload = refl
no_message session type.ClientError payload = refl
no_message session type.ServerError payload = refl
no_message session type.ServerStream payload = refl
no_message session type.Completion payload = refl

apart : (s n : ℕ) → s ≤ n → (s == n + 1) ≡ false
apart s n low = ne_eqb s (n + 1) (λ same. omega (arith, same, low))

pub fresh_deeds : (c n i : ℕ) (ss : List Saying) (items : List Item) → AllByRecursion (KnownItem n i ss) items → deeds_by c (n + 1) items ≡ []
fresh_deeds c n i ss [] all = refl
fresh_deeds c n i ss (item ∷ items) all =
    deeds_more c (n + 1) (item ∷ []) items
    ∙ (ap (λ ds. ds ++ deeds_by c (n + 1) items) (one_deeds c (n + 1) item ∙ of_act item.act all.0 (is_for c item.call)) ∙ fresh_deeds c n i ss items all.1)
  where
    of_out : (out : Out) → session_of out ≤ n → deeds_in (n + 1) (out ∷ []) ≡ []
    of_out (Message payload) low = refl
    of_out (Begin s r o) low = rw (apart s n low) refl
    of_out (Append s bytes) low = rw (apart s n low) refl
    of_out (Commit s) low = rw (apart s n low) refl
    of_out (Leave s) low = rw (apart s n low) refl

    of_act : (act : Act) → KnownAct n i ss act → (b : Bool) → deeds_in (n + 1) (if b then act_outs act else []) ≡ []
    of_act (Send p) known true = no_message (n + 1) p.ptype p.payload
    of_act (Send p) known false = refl
    of_act (Keep out) low true = of_out out low
    of_act (Keep out) low false = refl
    of_act LeaveCall known true = refl
    of_act LeaveCall known false = refl

-- The methods of demo.Demo, and that its service is another.
pub named_echo : method_of demo_methods demo_id (name_id (codes "Echo")) ≡ Some (demo_method (codes "Echo") Unary)
unfolding name_id
named_echo = refl

pub named_count : method_of demo_methods demo_id (name_id (codes "Count")) ≡ Some (demo_method (codes "Count") ServerStream)
unfolding name_id
named_count = refl

pub named_sum : method_of demo_methods demo_id (name_id (codes "Sum")) ≡ Some (demo_method (codes "Sum") ClientStream)
unfolding name_id
named_sum = refl

pub named_chat : method_of demo_methods demo_id (name_id (codes "Chat")) ≡ Some (demo_method (codes "Chat") Bidi)
unfolding name_id
named_chat = refl

pub services_differ : demo_id ≡ transfer_id → ⊥
unfolding name_id
services_differ is = absurd (false≢true (sym differ ∙ ap (λ n. n == transfer_id) is ∙ same))
  where
    differ : (demo_id == transfer_id) ≡ false
    differ = refl

    same : (transfer_id == transfer_id) ≡ true
    same = refl
