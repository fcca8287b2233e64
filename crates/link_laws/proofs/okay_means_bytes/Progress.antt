-- The length that a session has committed, by its store actions.
use Rattle.std.proofs.Common.{◌≡◌, ℕ, ◌+◌, ◌≤◌, ◌==◌, Bool, true, false, if◌then◌else◌, List, [], ◌∷◌, ◌++◌, fold, length, map, Option, Some, None, inl, inr, refl, sym, ap, ◌∙◌, arith, length-append}
use Rattle.std.proofs.lemmas.Bool.{eqb-true, false≢true}
use Rattle.std.specs.List.{AllByRecursion, list_any}
use Rattle.std.proofs.lemmas.Grind.{flat_map-append}
use Rattle.std.specs.Io.Iter.{u64_saturate}
use Rattle.rpc_packet.specs.declared.packet_type.PacketType.{PacketType}
use Rattle.rpc_packet.specs.declared.packet_type.PacketType.TheVariants.{Request, Response, ClientStream, ClientError, ServerError, ServerStream, Completion}
use Rattle.rpc_handlers.specs.declared.answer.Out.{Out}
use Rattle.rpc_handlers.specs.declared.answer.Out.TheVariants.{Say, Begin, Append, Commit, Leave}
use Rattle.rpc_journal.specs.declared.item.Act.{Act}
use Rattle.rpc_journal.specs.declared.item.Act.TheVariants.{Send, Keep, LeaveCall}
use Rattle.rpc_journal.specs.declared.item.Item.{Item}
use Rattle.rpc_journal.specs.Items.{is_for}
use Rattle.rpc_journal.specs.StoreSteps.{after_item, store_after}
use Rattle.transfer_words.specs.Saying.{Saying, says, begins, appends, commits, leaves}
use Rattle.transfer_resume.specs.Uploads.{joined_bytes}
use Rattle.link_laws.specs.uploads.CallItems.{act_outs, item_outs, streamed_out, outs_by}
use Rattle.link_laws.specs.uploads.Uploads.{deed_in, deeds_by, deeds_in, is_commit}
use Rattle.history_laws.specs.messages.Messages.{IsIn}
use Rattle.transfer_laws.specs.words.Tasks.{MakesWhole}
use Rattle.link_laws.specs.world.Committed.{Progress, begins_at, committed, grows_by, is_left, is_whole, no_progress, progress_steps}

-- a store action of the session
abbrev deed_step : Progress → Saying → Progress
deed_step p (says w) = p
deed_step p (begins resource offset) = begins_at offset p
deed_step p (appends bytes) = grows_by (length bytes) p
deed_step p commits = is_whole p
deed_step p leaves = is_left p

-- the works of the call aren't left all at once
abbrev pub NotLeft : ℕ → Option ℕ → Act → Type 0
NotLeft call o (Send p) = Unit {0}
NotLeft call o (Keep out) = Unit {0}
NotLeft call o LeaveCall = is_for call o ≡ false

fold_append : (ds es : List Saying) (p : Progress) → fold deed_step p (ds ++ es) ≡ fold deed_step (fold deed_step p ds) es
fold_append [] es p = refl
fold_append (d ∷ ds) es p = fold_append ds es (deed_step p d)

no_message : (session : ℕ) (type : PacketType) (payload : List ℕ) → deeds_in session (streamed_out type payload) ≡ []
no_message session Request payload = refl
no_message session Response payload = refl
no_message session ClientStream payload = refl
no_message session ClientError payload = refl
no_message session ServerError payload = refl
no_message session ServerStream payload = refl
no_message session Completion payload = refl

module _ (session call : ℕ) where
  one_out : (x : ℕ) (out : Out) (p : Progress) (b : Bool) → (x == call) ≡ b → after_item (progress_steps call session) (Some x) (Keep out) p ≡ fold deed_step p (deeds_in session (if b then out ∷ [] else []))
  one_out x (Say payload) p true e = refl
  one_out x (Say payload) p false e = refl
  one_out x (Begin s r o) p true e = rw e (by_session (s == session))
    where
      by_session : (b : Bool) → (if b then begins_at o p else p) ≡ fold deed_step p ((if b then begins r o ∷ [] else []) ++ [])
      by_session true = refl
      by_session false = refl
  one_out x (Begin s r o) p false e = rw e refl
  one_out x (Append s bytes) p true e = rw e (by_session (s == session))
    where
      by_session : (b : Bool) → (if b then grows_by (length bytes) p else p) ≡ fold deed_step p ((if b then appends bytes ∷ [] else []) ++ [])
      by_session true = refl
      by_session false = refl
  one_out x (Append s bytes) p false e = rw e refl
  one_out x (Commit s) p true e = rw e (by_session (s == session))
    where
      by_session : (b : Bool) → (if b then is_whole p else p) ≡ fold deed_step p ((if b then commits ∷ [] else []) ++ [])
      by_session true = refl
      by_session false = refl
  one_out x (Commit s) p false e = rw e refl
  one_out x (Leave s) p true e = rw e (by_session (s == session))
    where
      by_session : (b : Bool) → (if b then is_left p else p) ≡ fold deed_step p ((if b then leaves ∷ [] else []) ++ [])
      by_session true = refl
      by_session false = refl
  one_out x (Leave s) p false e = rw e refl

  one_act : (x : ℕ) (act : Act) (p : Progress) → NotLeft call (Some x) act → after_item (progress_steps call session) (Some x) act p ≡ fold deed_step p (deeds_in session (if x == call then act_outs act else []))
  one_act x (Send packet) p still = at (x == call)
    where
      at : (b : Bool) → p ≡ fold deed_step p (deeds_in session (if b then streamed_out packet.ptype packet.payload else []))
      at true = ap (fold deed_step p) (sym (no_message session packet.ptype packet.payload))
      at false = refl
  one_act x (Keep out) p still = one_out x out p (x == call) refl
  one_act x LeaveCall p still = rw still refl

  one_item : (o : Option ℕ) (act : Act) (p : Progress) → NotLeft call o act → after_item (progress_steps call session) o act p ≡ fold deed_step p (deeds_in session (if is_for call o then act_outs act else []))
  one_item None act p still = refl
  one_item (Some x) act p still = one_act x act p still

  over_items : (items : List Item) (p : Progress) → AllByRecursion (λ item. NotLeft call item.call item.act) items
      → store_after (progress_steps call session) p items ≡ fold deed_step p (deeds_by call session items)
  over_items [] p still = refl
  over_items (item ∷ items) p still =
      ap (λ q. store_after (progress_steps call session) q items) (one_item item.call item.act p still.0)
      ∙ (over_items items (fold deed_step p (deeds_in session (item_outs call item))) still.1
      ∙ (sym (fold_append (deeds_in session (item_outs call item)) (deeds_by call session items) p)
      ∙ ap (fold deed_step p) (sym (deeds_append (item_outs call item) (outs_by call items)))))
    where
      deeds_append : (xs ys : List Out) → deeds_in session (xs ++ ys) ≡ deeds_in session xs ++ deeds_in session ys
      deeds_append xs ys = flat_map-append (deed_in session) xs ys

small : (n : ℕ) → n ≤ 16777216 → u64_saturate n ≡ n
small n within = omega (arith, within)

-- bytes are added
grown : (added : List (List ℕ)) (o : ℕ) (whole : Option ℕ) → o + length (joined_bytes added) ≤ 16777216
    → fold deed_step (record { end = Some o; whole = whole }) (map appends added) ≡ record { end = Some (o + length (joined_bytes added)); whole = whole }
grown [] o whole within = ap (λ n. record { end = Some n; whole = whole }) (omega arith)
grown (b ∷ added) o whole within =
    let long = length-append b (joined_bytes added) in
    ap (λ n. fold deed_step (record { end = Some n; whole = whole }) (map appends added)) (small (o + length b) (omega (arith, within, long)))
    ∙ (grown added (o + length b) whole (omega (arith, within, long))
    ∙ ap (λ n. record { end = Some n; whole = whole }) (omega (arith, long)))

-- the length of what was made whole
pub whole_length : (items : List Item) (session call resource offset : ℕ) (bytes : List ℕ) → AllByRecursion (λ item. NotLeft call item.call item.act) items
    → MakesWhole resource offset bytes (deeds_by call session items) → offset + length bytes ≤ 16777216 → committed items session call ≡ Some (offset + length bytes)
whole_length items session call resource offset bytes still made within =
    let joined : length (joined_bytes made.added) ≡ length bytes = ap length made.bytes_are in
    ap (λ (p : Progress). p.whole)
    (over_items session call items no_progress still
    ∙ (ap (fold deed_step no_progress) made.deeds_are
    ∙ (fold_append (map appends made.added) (commits ∷ []) (record { end = Some offset; whole = None })
    ∙ ap (λ p. deed_step p commits) (grown made.added offset None (omega (arith, joined, within))))))
    ∙ ap (λ n. Some (offset + n)) joined

-- where something was committed, a Commit is among the store actions
has_commit : (ds : List Saying) (p : Progress) (n : ℕ) → (fold deed_step p ds).whole ≡ Some n → p.whole ≡ None → list_any is_commit ds ≡ true
has_commit [] p n is none = absurd (none_some (sym none ∙ is))
  where
    none_some : None ≡ Some n → ⊥
    none_some same = cc
has_commit (says w ∷ ds) p n is none = has_commit ds p n is none
has_commit (begins r o ∷ ds) p n is none = has_commit ds (begins_at o p) n is none
has_commit (appends bytes ∷ ds) p n is none = has_commit ds (grows_by (length bytes) p) n is none
has_commit (commits ∷ ds) p n is none = refl
has_commit (leaves ∷ ds) p n is none = has_commit ds (is_left p) n is none

commit_out : (session : ℕ) (xs : List Out) → list_any is_commit (deeds_in session xs) ≡ true → IsIn (Commit session) xs
commit_out session [] is = absurd (false≢true is)
commit_out session (Say payload ∷ xs) is = inr (commit_out session xs is)
commit_out session (Begin s r o ∷ xs) is = at (s == session) is (λ later. commit_out session xs later)
  where
    at : (b : Bool) → list_any is_commit ((if b then begins r o ∷ [] else []) ++ deeds_in session xs) ≡ true → (list_any is_commit (deeds_in session xs) ≡ true → IsIn (Commit session) xs)
        → IsIn (Commit session) (Begin s r o ∷ xs)
    at true is more = inr (more is)
    at false is more = inr (more is)
commit_out session (Append s bytes ∷ xs) is = at (s == session) is (λ later. commit_out session xs later)
  where
    at : (b : Bool) → list_any is_commit ((if b then appends bytes ∷ [] else []) ++ deeds_in session xs) ≡ true → (list_any is_commit (deeds_in session xs) ≡ true → IsIn (Commit session) xs)
        → IsIn (Commit session) (Append s bytes ∷ xs)
    at true is more = inr (more is)
    at false is more = inr (more is)
commit_out session (Commit s ∷ xs) is = at (s == session) refl is (λ later. commit_out session xs later)
  where
    at : (b : Bool) → (s == session) ≡ b → list_any is_commit ((if b then commits ∷ [] else []) ++ deeds_in session xs) ≡ true → (list_any is_commit (deeds_in session xs) ≡ true → IsIn (Commit session) xs)
        → IsIn (Commit session) (Commit s ∷ xs)
    at true e is more = inl (ap Commit (sym (eqb-true s session e)))
    at false e is more = inr (more is)
commit_out session (Leave s ∷ xs) is = at (s == session) is (λ later. commit_out session xs later)
  where
    at : (b : Bool) → list_any is_commit ((if b then leaves ∷ [] else []) ++ deeds_in session xs) ≡ true → (list_any is_commit (deeds_in session xs) ≡ true → IsIn (Commit session) xs)
        → IsIn (Commit session) (Leave s ∷ xs)
    at true is more = inr (more is)
    at false is more = inr (more is)

pub committed_out : (items : List Item) (session call n : ℕ) → AllByRecursion (λ item. NotLeft call item.call item.act) items → committed items session call ≡ Some n
    → IsIn (Commit session) (outs_by call items)
committed_out items session call n still is =
    commit_out session (outs_by call items)
    (has_commit (deeds_by call session items) no_progress n (ap (λ (p : Progress). p.whole) (sym (over_items session call items no_progress still)) ∙ is) refl)
