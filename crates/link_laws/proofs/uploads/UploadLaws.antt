-- From what a call of Write answers to the store actions that go out.
use Rattle.std.proofs.Common.{◌≡◌, ◌⊎◌, ℕ, ◌==◌, Bool, true, false, ◌&&◌, List, [], ◌∷◌, ◌++◌, map, inl, inr, refl, ap, sym, ◌∙◌, subst, append_assoc, codes, if◌then◌else◌}
use Rattle.std.proofs.lemmas.Bool.{false≢true}
use Rattle.std.proofs.lemmas.Grind.{flat_map-append}
use Rattle.std.specs.List.{AllByRecursion, list_any}
use Rattle.link_io.specs.declared.Shelf.{Shelf}
use Rattle.rpc_ids.specs.declared.method.MethodRef.{MethodRef}
use Rattle.rpc_handlers.specs.declared.answer.Out.{Out}
use Rattle.rpc_handlers.specs.declared.answer.Out.TheVariants.{Say, Begin, Append, Commit, Leave}
use Rattle.rpc_handlers.specs.declared.event.Event.{Event}
use Rattle.rpc_handlers.specs.declared.event.Memo.{Memo}
use Rattle.rpc_journal.specs.declared.entry.Entry.{Entry}
use Rattle.rpc_journal.specs.declared.item.Item.{Item}
use Rattle.rpc_journal.specs.declared.setting.Setting.{Setting}
use Rattle.rpc_journal.specs.Effect.{Opening}
use Rattle.rpc_journal.specs.History.{history}
use Rattle.rpc_journal.specs.Items.{items_sent}
use Rattle.rpc_journal.specs.table.Touch.{is_message}
use Rattle.transfer_base.specs.declared.Piece.{Piece}
use Rattle.transfer_base.specs.PieceLists.{IsPickedFrom, Joins}
use Rattle.transfer_chunk.specs.ChunkTypes.{type_of}
use Rattle.transfer_receiver.proofs.RunLaws.{joined_parts_are_the_resource}
use Rattle.transfer_words.specs.Saying.{Saying, says, begins, appends, commits, leaves, out_of}
use Rattle.transfer_words.specs.Spoken.{piece_in}
use Rattle.transfer_resume.specs.declared.side.Side.TheVariants.{Write}
use Rattle.transfer_resume.specs.Book.{Outgoing, new_book, spelled, spelled_all}
use Rattle.transfer_resume.specs.Uploads.{Comes, chunk_comes, time_comes, call_ends, Follows, goes_on, is_left, is_whole, IsUpload, came, deeds_of, is_data, is_of, joined_bytes, with_deed, with_piece}
use Rattle.demo_services.specs.DemoRule.{answer, demo_rule, first, next}
use Rattle.demo_services.specs.Laws.{said}
use Rattle.demo_services.specs.Methods.{is_transfer, transfer_method}
use Rattle.demo_services.specs.Transfer.{demo_seed}
use Rattle.demo_services.specs.Uploads.{IsMessage, all_comes, comes_with, written}
use Rattle.demo_services.proofs.OtherLemmas.{first_write_by}
use Rattle.demo_services.proofs.OtherLemmas.{others_store_nothing as demo_others}
use Rattle.demo_services.proofs.UploadLemmas as demo
use Rattle.link_laws.specs.uploads.CallItems.{AllButMessages, IsAnswered, answers_over, outs_by}
use Rattle.link_laws.specs.uploads.Uploads.{IsWhole, OthersStoreNothing, UploadsOfHistory, deed_in, deeds_by, deeds_in, is_commit, pieces_to}
use Rattle.link_laws.proofs.uploads.AnsweredLaws.{calls_are_answered}
use Rattle.link_laws.proofs.uploads.ItemLemmas.{outs_by-append}

-- the answers of the demo service's rule are what its calls say
same_answers : (m : Memo) (evs : List Event) → answers_over demo_rule m evs ≡ said m evs
same_answers m [] = refl
same_answers m (ev ∷ evs) = ap (λ outs. (answer m ev).items ++ outs) (same_answers (next m ev) evs)

one_more : (b : Bool) (deed : Saying) (deeds : List Saying) → (if b then deed ∷ [] else []) ++ deeds ≡ (if b then deed ∷ deeds else deeds)
one_more true deed deeds = refl
one_more false deed deeds = refl

with_more : (is : Bool) (p : Piece) (ps qs : List Piece) → with_piece is p (ps ++ qs) ≡ with_piece is p ps ++ qs
with_more true p ps qs = refl
with_more false p ps qs = refl

-- The store actions of a session among items are those among what its sessions did.
module _ (id : ℕ) where
  with_spelled : (s : ℕ) (saying : Saying) (deeds : List Saying)
      → deed_in id (out_of s saying) ++ deeds ≡ (if s == id then with_deed saying deeds else deeds)
  with_spelled s (says w) deeds = at (s == id)
    where
      at : (b : Bool) → deeds ≡ (if b then deeds else deeds)
      at true = refl
      at false = refl
  with_spelled s (begins resource offset) deeds = one_more (s == id) (begins resource offset) deeds
  with_spelled s (appends bytes) deeds = one_more (s == id) (appends bytes) deeds
  with_spelled s commits deeds = one_more (s == id) commits deeds
  with_spelled s leaves deeds = one_more (s == id) leaves deeds

  deeds_spelled : (outs : List Outgoing) → deeds_in id (spelled_all outs) ≡ deeds_of id outs
  deeds_spelled [] = refl
  deeds_spelled (o ∷ outs) = ap (λ deeds. deed_in id (spelled o) ++ deeds) (deeds_spelled outs) ∙ with_spelled o.session o.saying (deeds_of id outs)

  no_deed : (out : Out) → is_message out ≡ true → deed_in id out ≡ []
  no_deed (Say payload) is = refl
  no_deed (Begin session resource offset) is = absurd (false≢true is)
  no_deed (Append session bytes) is = absurd (false≢true is)
  no_deed (Commit session) is = absurd (false≢true is)
  no_deed (Leave session) is = absurd (false≢true is)

  -- messages are no store actions
  same_deeds : (all outs : List Out) → AllButMessages all outs → deeds_in id outs ≡ deeds_in id all
  same_deeds [] outs is = ap (deeds_in id) is
  same_deeds (out ∷ all) outs (inl (message, is)) = same_deeds all outs is ∙ ap (λ deeds. deeds ++ deeds_in id all) (sym (no_deed out message))
  same_deeds (out ∷ all) outs (inr (rest, same, is)) = ap (deeds_in id) same ∙ ap (λ deeds. deed_in id out ++ deeds) (same_deeds all rest is)

  came_append : (xs ys : List Comes) → came id (xs ++ ys) ≡ came id xs ++ came id ys
  came_append [] ys = refl
  came_append (chunk_comes c ∷ xs) ys =
      ap (with_piece (is_data (type_of c) && is_of id c.session) (piece_in c)) (came_append xs ys) ∙ with_more (is_data (type_of c) && is_of id c.session) (piece_in c) (came id xs) (came id ys)
  came_append (time_comes now ∷ xs) ys = came_append xs ys
  came_append (call_ends ∷ xs) ys = came_append xs ys

all_comes_append : (xs ys : List Event) → all_comes (xs ++ ys) ≡ all_comes xs ++ all_comes ys
all_comes_append [] ys = refl
all_comes_append (ev ∷ xs) ys = ap (λ es. comes_with ev ++ es) (all_comes_append xs ys) ∙ sym (append_assoc (comes_with ev) (all_comes xs) (all_comes ys))

-- what a call of Write answers to events, from its first state on, is what its sessions say and do
pub write_answers : (shelf : Shelf) (window chunk : ℕ) (seed : Memo) (m : MethodRef) (evs : List Event) → seed ≡ demo_seed shelf window chunk → m ≡ transfer_method (codes "Write")
    → answers_over demo_rule (first seed m) evs ≡ spelled_all (written shelf window chunk evs)
write_answers shelf window chunk seed m evs seeded method =
    same_answers (first seed m) evs
    ∙ (ap (λ x. said x evs) (ap (λ s. first s m) seeded ∙ ap (first (demo_seed shelf window chunk)) method)
    ∙ (demo.uploads_join shelf window chunk evs 0).says)

-- An upload of the pieces that came is one of these and more.
picked_of_more : (qs ps more : List Piece) → IsPickedFrom qs ps → IsPickedFrom qs (ps ++ more)
picked_of_more [] ps more is = tt
picked_of_more (q ∷ qs) [] more is = absurd is
picked_of_more (q ∷ qs) (p ∷ ps) more (inl (same, is)) = inl (same, picked_of_more qs ps more is)
picked_of_more (q ∷ qs) (p ∷ ps) more (inr is) = inr (picked_of_more (q ∷ qs) ps more is)

joins_of_more : (ps more : List Piece) (offset : ℕ) (bytes : List ℕ) → Joins ps offset bytes → Joins (ps ++ more) offset bytes
joins_of_more ps more offset bytes j = record {
  picked = j.picked;
  in_order = picked_of_more j.picked ps more j.in_order;
  consecutive = j.consecutive;
  last = j.last;
  data_is = j.data_is;
}

follows_of_more : (ps more : List Piece) (offset : ℕ) (deeds : List Saying) → Follows ps offset deeds → Follows (ps ++ more) offset deeds
follows_of_more ps more offset deeds (goes_on bytes is) = goes_on bytes is
follows_of_more ps more offset deeds (is_left bytes is) = is_left bytes is
follows_of_more ps more offset deeds (is_whole bytes is joins) = is_whole bytes is (joins_of_more ps more offset (joined_bytes bytes) joins)

upload_of_more : (ps more : List Piece) (deeds : List Saying) → IsUpload ps deeds → IsUpload (ps ++ more) deeds
upload_of_more ps more deeds (inl none) = inl none
upload_of_more ps more deeds (inr (resource, offset, rest, is, follows)) = inr (resource, offset, rest, is, follows_of_more ps more offset rest follows)

-- The beginning of an upload is one.
cons_head : (x y : Saying) (xs ys : List Saying) → x ∷ xs ≡ y ∷ ys → x ≡ y
cons_head x y xs ys same = cc

cons_tail : (x y : Saying) (xs ys : List Saying) → x ∷ xs ≡ y ∷ ys → xs ≡ ys
cons_tail x y xs ys same = cc

front_empty : (xs ys : List Saying) → xs ++ ys ≡ [] → xs ≡ []
front_empty [] ys is = refl
front_empty (x ∷ xs) ys is = absurd cc

appends_front : (ds back : List Saying) (bytes : List (List ℕ)) → ds ++ back ≡ map appends bytes → (bs : List (List ℕ)) × (ds ≡ map appends bs)
appends_front [] back bytes is = ([], refl)
appends_front (d ∷ ds) back [] is = absurd cc
appends_front (d ∷ ds) back (b ∷ bytes) is = at (appends_front ds back bytes (cons_tail _ _ _ _ is))
  where
    at : (bs : List (List ℕ)) × (ds ≡ map appends bs) → (bs : List (List ℕ)) × (d ∷ ds ≡ map appends bs)
    at (bs, same) = (b ∷ bs, ap (λ x. x ∷ ds) (cons_head _ _ _ _ is) ∙ ap (λ xs. appends b ∷ xs) same)

abbrev Front : List Saying → List (List ℕ) → Saying → Type 0
Front ds bytes end = ((bs : List (List ℕ)) × (ds ≡ map appends bs)) ⊎ (ds ≡ map appends bytes ++ end ∷ [])

ended_front : (ds back : List Saying) (bytes : List (List ℕ)) (end : Saying) → ds ++ back ≡ map appends bytes ++ end ∷ [] → Front ds bytes end
ended_front [] back bytes end is = inl ([], refl)
ended_front (d ∷ ds) back [] end is = inr (ap (λ x. x ∷ ds) (cons_head _ _ _ _ is) ∙ ap (λ xs. end ∷ xs) (front_empty ds back (cons_tail _ _ _ _ is)))
ended_front (d ∷ ds) back (b ∷ bytes) end is = at (ended_front ds back bytes end (cons_tail _ _ _ _ is))
  where
    at : Front ds bytes end → Front (d ∷ ds) (b ∷ bytes) end
    at (inl (bs, same)) = inl (b ∷ bs, ap (λ x. x ∷ ds) (cons_head _ _ _ _ is) ∙ ap (λ xs. appends b ∷ xs) same)
    at (inr same) = inr (ap (λ x. x ∷ ds) (cons_head _ _ _ _ is) ∙ ap (λ xs. appends b ∷ xs) same)

follows_front : (ps : List Piece) (offset : ℕ) (ds back rest : List Saying) → ds ++ back ≡ rest → Follows ps offset rest → Follows ps offset ds
follows_front ps offset ds back rest same (goes_on bytes is) = at (appends_front ds back bytes (same ∙ is))
  where
    at : (bs : List (List ℕ)) × (ds ≡ map appends bs) → Follows ps offset ds
    at (bs, so) = goes_on bs so
follows_front ps offset ds back rest same (is_left bytes is) = at (ended_front ds back bytes leaves (same ∙ is))
  where
    at : Front ds bytes leaves → Follows ps offset ds
    at (inl (bs, so)) = goes_on bs so
    at (inr so) = is_left bytes so
follows_front ps offset ds back rest same (is_whole bytes is joins) = at (ended_front ds back bytes commits (same ∙ is))
  where
    at : Front ds bytes commits → Follows ps offset ds
    at (inl (bs, so)) = goes_on bs so
    at (inr so) = is_whole bytes so joins

upload_front : (ps : List Piece) (ds back : List Saying) → IsUpload ps (ds ++ back) → IsUpload ps ds
upload_front ps [] back is = inl refl
upload_front ps (d ∷ ds) back (inl none) = absurd cc
upload_front ps (d ∷ ds) back (inr (resource, offset, rest, is, follows)) =
    inr (resource, offset, ds, ap (λ x. x ∷ ds) (cons_head _ _ _ _ is), follows_front ps offset ds back rest (cons_tail _ _ _ _ is) follows)

-- Where it commits, it is whole.
no_commit : (bytes : List (List ℕ)) (end : List Saying) → list_any is_commit (map appends bytes ++ end) ≡ list_any is_commit end
no_commit [] end = refl
no_commit (b ∷ bytes) end = no_commit bytes end

only_appends : (bytes : List (List ℕ)) → list_any is_commit (map appends bytes) ≡ false
only_appends [] = refl
only_appends (b ∷ bytes) = only_appends bytes

committed : (ps : List Piece) (deeds : List Saying) → IsUpload ps deeds → list_any is_commit deeds ≡ true → IsWhole ps deeds
committed ps deeds (inl none) has = absurd (false≢true (ap (list_any is_commit) (sym none) ∙ has))
committed ps deeds (inr (resource, offset, rest, is, follows)) has = at follows
  where
    in_rest : list_any is_commit rest ≡ true
    in_rest = ap (list_any is_commit) (sym is) ∙ has

    at : Follows ps offset rest → IsWhole ps deeds
    at (goes_on bytes so) = absurd (false≢true (sym (ap (list_any is_commit) so ∙ only_appends bytes) ∙ in_rest))
    at (is_left bytes so) = absurd (false≢true (sym (ap (list_any is_commit) so ∙ no_commit bytes (leaves ∷ [])) ∙ in_rest))
    at (is_whole bytes so joins) = record {
      resource = resource;
      offset = offset;
      bytes = bytes;
      deeds_are = is ∙ ap (λ xs. begins resource offset ∷ xs) so;
      joins = joins;
      honest = λ content parts. joined_parts_are_the_resource content ps offset (joined_bytes bytes) joins parts;
    }

deeds_by_front : (c session : ℕ) (items more all : List Item) → items ++ more ≡ all → deeds_by c session items ++ deeds_by c session more ≡ deeds_by c session all
deeds_by_front c session items more all is =
    sym (flat_map-append (deed_in session) (outs_by c items) (outs_by c more))
    ∙ (ap (deeds_in session) (sym (outs_by-append c items more)) ∙ ap (deeds_by c session) is)

-- what a call of the method with the ids of Write answers
writes_by_id : (shelf : Shelf) (window chunk : ℕ) (seed : Memo) (m : MethodRef) (evs : List Event) → seed ≡ demo_seed shelf window chunk → is_transfer (codes "Write") m ≡ true
    → answers_over demo_rule (first seed m) evs ≡ spelled_all (written shelf window chunk evs)
writes_by_id shelf window chunk seed m evs seeded is =
    same_answers (first seed m) evs
    ∙ (ap (λ x. said x evs) (ap (λ s. first s m) seeded ∙ sym (first_write_by shelf window chunk m is))
    ∙ demo.said_over evs (new_book Write shelf window chunk))

no_deeds : (id : ℕ) (outs : List Out) → AllByRecursion IsMessage outs → deeds_in id outs ≡ []
no_deeds id [] all = refl
no_deeds id (out ∷ outs) all = ap (λ x. deed_in id x ++ deeds_in id outs) all.0.1 ∙ no_deeds id outs all.1

-- what a call of another method answers has no store action
others_answer : (shelf : Shelf) (window chunk : ℕ) (seed : Memo) (m : MethodRef) (evs : List Event) (id : ℕ) → seed ≡ demo_seed shelf window chunk → is_transfer (codes "Write") m ≡ false
    → deeds_in id (answers_over demo_rule (first seed m) evs) ≡ []
others_answer shelf window chunk seed m evs id seeded other =
    ap (deeds_in id) (same_answers (first seed m) evs ∙ ap (λ s. said (first s m) evs) seeded)
    ∙ no_deeds id (said (first (demo_seed shelf window chunk) m) evs) (demo_others shelf window chunk m evs other)

write_of_history :
    (shelf : Shelf) (window chunk : ℕ) (set : Setting) (h : List Entry) (c : ℕ) (o : Opening) (session : ℕ) → set.seed ≡ demo_seed shelf window chunk
    → IsAnswered demo_rule set h c o → is_transfer (codes "Write") o.method ≡ true → IsUpload (pieces_to set h c session) (deeds_by c session (items_sent (history set h)))
write_of_history shelf window chunk set h c o session seed so method =
    let write = demo.uploads_join shelf window chunk so.events session in
    let deeds : deeds_by c session (items_sent (history set h)) ≡ deeds_of session (written shelf window chunk so.events) =
    same_deeds session _ _ so.answers
    ∙ (ap (deeds_in session) (writes_by_id shelf window chunk set.seed o.method so.events seed method) ∙ deeds_spelled session (written shelf window chunk so.events)) in
    let pieces : came session (all_comes so.events) ++ came session (all_comes so.begin.0) ≡ pieces_to set h c session =
    sym (came_append session (all_comes so.events) (all_comes so.begin.0))
    ∙ (ap (came session) (sym (all_comes_append so.events so.begin.0)) ∙ ap (λ evs. came session (all_comes evs)) so.begin.1) in
    subst (λ ps. IsUpload ps (deeds_by c session (items_sent (history set h)))) pieces
    (upload_of_more (came session (all_comes so.events)) (came session (all_comes so.begin.0)) _ (subst (IsUpload (came session (all_comes so.events))) (sym deeds) write.upload))

other_of_history :
    (shelf : Shelf) (window chunk : ℕ) (set : Setting) (h : List Entry) (c : ℕ) (o : Opening) (session : ℕ) → set.seed ≡ demo_seed shelf window chunk
    → IsAnswered demo_rule set h c o → is_transfer (codes "Write") o.method ≡ false → deeds_by c session (items_sent (history set h)) ≡ []
other_of_history shelf window chunk set h c o session seed so method =
    same_deeds session _ _ so.answers ∙ others_answer shelf window chunk set.seed o.method so.events session seed method

upload_by :
    (shelf : Shelf) (window chunk : ℕ) (set : Setting) (h : List Entry) (c : ℕ) (o : Opening) (session : ℕ) → set.seed ≡ demo_seed shelf window chunk
    → IsAnswered demo_rule set h c o → (is_write : Bool) → is_transfer (codes "Write") o.method ≡ is_write
    → IsUpload (pieces_to set h c session) (deeds_by c session (items_sent (history set h)))
upload_by shelf window chunk set h c o session seed so true method = write_of_history shelf window chunk set h c o session seed so method
upload_by shelf window chunk set h c o session seed so false method = inl (other_of_history shelf window chunk set h c o session seed so method)

pub uploads_of_history : UploadsOfHistory
uploads_of_history shelf window chunk set h c o items session role seed legal own is_there front =
    let so = calls_are_answered demo_rule set h c o role refl legal own is_there in
    let all = upload_by shelf window chunk set h c o session seed so (is_transfer (codes "Write") o.method) refl in
    let upload : IsUpload (pieces_to set h c session) (deeds_by c session items) =
    upload_front _ (deeds_by c session items) (deeds_by c session front.0)
    (subst (IsUpload (pieces_to set h c session)) (sym (deeds_by_front c session items front.0 (items_sent (history set h)) front.1)) all) in
    record { upload = upload; whole = committed (pieces_to set h c session) (deeds_by c session items) upload }

pub others_of_history : OthersStoreNothing
others_of_history shelf window chunk set h c o items session role seed legal own is_there method front =
    let so = calls_are_answered demo_rule set h c o role refl legal own is_there in
    front_empty (deeds_by c session items) (deeds_by c session front.0)
    (deeds_by_front c session items front.0 (items_sent (history set h)) front.1 ∙ other_of_history shelf window chunk set h c o session seed so method)
