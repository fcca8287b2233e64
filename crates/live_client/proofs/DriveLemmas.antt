-- How the driver's knowledge goes on, from step to step.
use Rattle.std.proofs.Common.{◌≡◌, ◌≢◌, ◌==◌, ◌&&◌, if◌then◌else◌, ℕ, ◌+◌, ◌≤◌, Bool, true, false, List, [], ◌∷◌, ◌++◌, length, refl, ap, sym, ◌∙◌, subst, arith, append_assoc, eq-eqb, reverse}
use Rattle.std.proofs.lemmas.Bool.{true≢false}
use Rattle.std.proofs.lemmas.List.{append-nil, reverse-append}
use Rattle.std.specs.List.{AllByRecursion}
use Rattle.std.specs.Option.{option_to_list}
use mathlib.Core.List.{IsPrefix}
use Rattle.entry_lists.specs.Entries.{made_by}
use Rattle.entry_lists.proofs.Makers.{all_append, none_behind}
use Rattle.entry_lists.proofs.Prefixes.{prefix_append, prefix_trans}
use Rattle.link_io.specs.declared.why.Why.TheVariants.{JournalLimit}
use Rattle.rpc_handlers.specs.declared.event.Event.{Event}
use Rattle.rpc_journal.specs.declared.entry.Entry.{Entry}
use Rattle.rpc_journal.specs.declared.entry.EntryKind.{EntryKind}
use Rattle.rpc_journal.specs.declared.entry.EntryKind.TheVariants.{Halt}
use Rattle.rpc_journal.specs.declared.entry.TheConstants.{MAX_ENTRIES}
use Rattle.rpc_journal.specs.declared.item.Item.{Item}
use Rattle.rpc_journal.specs.declared.setting.Setting.{Setting}
use Rattle.rpc_journal.specs.Calls.{is_finish_of}
use Rattle.rpc_journal.specs.Conditions.{IsCall}
use Rattle.rpc_journal.specs.History.{adding, deeds_of, deeds_with, entry_by, history}
use Rattle.rpc_journal.specs.Items.{flushes, is_flush, items_sent}
use Rattle.rpc_journal.specs.Laws.{seat_of}
use Rattle.rpc_journal.specs.Queues.{taken_event}
use Rattle.rpc_journal.proofs.ItemLemmas.{call_stays, items_begin}
use Rattle.rpc_journal.proofs.Push.{all-reverse, history-push}
use Rattle.rpc_shared.specs.Steps.{IsOwn, Step, Steps}
use Rattle.turn_cell.specs.Passes.{IsSame}
use Rattle.rpc_journal.specs.Lawful.{IsLegal}
use Rattle.rpc_shared.specs.session.Crew.{IsLate, Lock, Seat}
use Rattle.rpc_shared.proofs.session.PassLemmas.{adds_none, adds_one, late_still, stands_after}
use Rattle.live_client.specs.Driving.{CanEnd, Drives, runs_by, runs_in, is_drivers}
use Rattle.live_client.specs.Histories.{AreSaidOver, cancels, is_cancel, said_by, says_of, uttered_by, utterances_of}
use Rattle.live_client.specs.Silent.{silent_rule}
use Rattle.live_client.specs.asks.Tasks.{Given}
use Rattle.live_client.proofs.SaidLemmas.{said_later}

-- ---- what others add is none of this seat's runs

module _ (set : Setting) (k c : ℕ) where
  -- of entries that stand the newest first
  runs_others : (new old : List Entry) → AllByRecursion (λ e. (seat_of e == k) ≡ false) new → runs_by k (deeds_of set (new ++ old)) c ≡ runs_by k (deeds_of set old) c
  runs_others [] old others = refl
  runs_others (e ∷ new) old others = at (e.seat == k) others.0 (runs_others new old others.1)
    where
      at : (b : Bool) → b ≡ false → runs_by k (deeds_of set (new ++ old)) c ≡ runs_by k (deeds_of set old) c
          → (if b && is_finish_of c e.kind then runs_by k (deeds_of set (new ++ old)) c ++ option_to_list (taken_event (deeds_of set (new ++ old)) c) else runs_by k (deeds_of set (new ++ old)) c)
          ≡ runs_by k (deeds_of set old) c
      at true off same = absurd (true≢false off)
      at false off same = same

-- none of these entries is by this seat
others_of : (k : ℕ) (h : List Entry) → made_by seat_of k h ≡ [] → AllByRecursion (λ e. (seat_of e == k) ≡ false) h
others_of k [] none = tt
others_of k (e ∷ h) none = at (e.seat == k) refl none (others_of k h)
  where
    at : (b : Bool) → (e.seat == k) ≡ b → (if b then e ∷ made_by seat_of k h else made_by seat_of k h) ≡ [] → (made_by seat_of k h ≡ [] → AllByRecursion (λ x. (seat_of x == k) ≡ false) h)
        → AllByRecursion (λ x. (seat_of x == k) ≡ false) (e ∷ h)
    at true is none rest = absurd cc
    at false is none rest = (is, rest none)

-- ---- what was said

pub says-append : (xs ys : List Entry) → says_of (xs ++ ys) ≡ says_of xs ++ says_of ys
says-append [] ys = refl
says-append (e ∷ xs) ys = ap (λ outs. said_by e.kind ++ outs) (says-append xs ys) ∙ sym (append_assoc (said_by e.kind) (says_of xs) (says_of ys))

pub says-push : (xs : List Entry) (e : Entry) → says_of (xs ++ e ∷ []) ≡ says_of xs ++ said_by e.kind
says-push xs e = says-append xs (e ∷ []) ∙ ap (λ outs. says_of xs ++ outs) (append-nil (said_by e.kind))

pub utterances-append : (xs ys : List Entry) → utterances_of (xs ++ ys) ≡ utterances_of xs ++ utterances_of ys
utterances-append [] ys = refl
utterances-append (e ∷ xs) ys = ap (λ outs. uttered_by e.kind ++ outs) (utterances-append xs ys) ∙ sym (append_assoc (uttered_by e.kind) (utterances_of xs) (utterances_of ys))

pub utterances-push : (xs : List Entry) (e : Entry) → utterances_of (xs ++ e ∷ []) ≡ utterances_of xs ++ uttered_by e.kind
utterances-push xs e = utterances-append xs (e ∷ []) ∙ ap (λ outs. utterances_of xs ++ outs) (append-nil (uttered_by e.kind))

-- ---- counts

if_one : (b : Bool) (n m : ℕ) → (if b then (n + m) + 1 else n + m) ≡ (if b then n + 1 else n) + m
if_one true n m = omega arith
if_one false n m = refl

pub flushes-append : (xs ys : List Entry) → flushes (xs ++ ys) ≡ flushes xs + flushes ys
flushes-append [] ys = omega arith
flushes-append (e ∷ xs) ys = ap (λ n. if is_flush e.kind then n + 1 else n) (flushes-append xs ys) ∙ if_one (is_flush e.kind) (flushes xs) (flushes ys)

pub cancels-append : (xs ys : List Entry) → cancels (xs ++ ys) ≡ (if cancels xs then true else cancels ys)
cancels-append [] ys = refl
cancels-append (e ∷ xs) ys = at (is_cancel e.kind) (cancels-append xs ys)
  where
    at : (b : Bool) → cancels (xs ++ ys) ≡ (if cancels xs then true else cancels ys)
        → (if b then true else cancels (xs ++ ys)) ≡ (if (if b then true else cancels xs) then true else cancels ys)
    at true rest = refl
    at false rest = rest

-- ---- a step

-- ---- a pass that has seen more, and added nothing

module _ (set : Setting) (c : ℕ) where
  pub runs_beyond : (h later : List Entry) → (begins : IsPrefix h later) → made_by seat_of 1 later ≡ made_by seat_of 1 h → runs_by 1 (history set later) c ≡ runs_by 1 (history set h) c
  runs_beyond h later begins own =
      let gap : made_by seat_of 1 begins.0 ≡ [] = none_behind seat_of 1 h begins.0 (ap (made_by seat_of 1) begins.1 ∙ own) in
      subst (λ es. runs_by 1 (history set es) c ≡ runs_by 1 (history set h) c) begins.1
      (ap (λ es. runs_by 1 (deeds_of set es) c) (reverse-append h begins.0)
      ∙ runs_others set 1 c (reverse begins.0) (reverse h) (all-reverse (λ (e : Entry). (seat_of e == 1) ≡ false) begins.0 (others_of 1 begins.0 gap)))

  pub front_beyond : (items : List Item) (h later : List Entry) → IsPrefix h later → IsPrefix items (items_sent (history set h)) → IsPrefix items (items_sent (history set later))
  front_beyond items h later begins front =
      prefix_trans items (items_sent (history set h)) (items_sent (history set later)) front
      (subst (λ es. IsPrefix (items_sent (history set h)) (items_sent (history set es))) begins.1 (items_begin set h begins.0))

  pub there_beyond : (h later : List Entry) → IsPrefix h later → IsCall set h c → IsCall set later c
  there_beyond h later begins there = subst (λ es. IsCall set es c) begins.1 (call_stays set h begins.0 c there)

pub drives_sees : (watches : Bool) (opening : EntryKind) (r : Lock) (c : ℕ) (events : List Event) (outs : List Given) (items : List Item) (p q : Seat) → Drives watches opening r c events outs items p
    → IsSame p q → IsOwn r q → IsLegal silent_rule r.base q.view.known.seen → IsPrefix p.view.known.seen q.view.known.seen → q.view.known.mine ≡ p.view.known.mine → made_by seat_of 1 q.view.known.seen ≡ q.view.known.mine
    → Drives watches opening r c events outs items q
drives_sees watches opening r c events outs items p q d same own legal begins mine shown =
    let shown_p : made_by seat_of 1 p.view.known.seen ≡ p.view.known.mine = subst (λ n. made_by seat_of n p.view.known.seen ≡ p.view.known.mine) d.number d.stands.shown in
    let others : made_by seat_of 1 q.view.known.seen ≡ made_by seat_of 1 p.view.known.seen = shown ∙ (mine ∙ sym shown_p) in
    let number : q.view.known.number ≡ 1 = same.number ∙ d.number in
    let late_p : IsLate 1 p.view.known.seen = subst (λ n. IsLate n p.view.known.seen) d.number d.stands.late in
    record {
      stands = record {
        own = own;
        legal = legal;
        shown = subst (λ n. made_by seat_of n q.view.known.seen ≡ q.view.known.mine) (sym number) shown;
        late = subst (λ n. IsLate n q.view.known.seen) (sym number) (late_still 1 p.view.known.seen q.view.known.seen begins others late_p);
      };
      number = number;
      rest = d.rest;
      mine = mine ∙ d.mine;
      kinds = d.kinds;
      there = there_beyond r.base c p.view.known.seen q.view.known.seen begins d.there;
      runs = runs_beyond r.base c p.view.known.seen q.view.known.seen begins others ∙ d.runs;
      said =
          λ can. subst (AreSaidOver r.base (runs_in r c) c q.view.known.seen outs) (ap utterances_of (sym mine))
          (said_later r.base (runs_in r c) c p.view.known.seen q.view.known.seen begins outs (utterances_of p.view.known.mine) (d.said can));
      front = front_beyond r.base c items p.view.known.seen q.view.known.seen begins d.front;
      count = d.count ∙ ap flushes (sym mine);
    }

module _ (watches : Bool) (opening : EntryKind) (r : Lock) (c : ℕ) (events : List Event) (outs : List Given) (items : List Item) (p q : Seat) (step : Step)
    (d : Drives watches opening r c events outs items p) (s : Steps silent_rule r p q step) where
  before_own : made_by seat_of 1 s.before ≡ made_by seat_of 1 p.view.known.seen
  before_own = subst (λ n. made_by seat_of n s.before ≡ made_by seat_of n p.view.known.seen) d.number (s.own ∙ sym s.shown)

  pub runs_before : runs_by 1 (history r.base s.before) c ≡ events
  runs_before = runs_beyond r.base c p.view.known.seen s.before s.begins before_own ∙ d.runs

  -- nothing was added
  pub drives_kept : q.view.known.seen ≡ s.before → Drives watches opening r c events outs items q
  drives_kept same =
      let adds = adds_none silent_rule r p q step (is_drivers watches) s same in
      drives_sees watches opening r c events outs items p q d adds.same adds.own adds.legal adds.begins
      (s.mine [] (same ∙ sym (append-nil s.before)) ∙ append-nil p.view.known.mine)
      (subst (λ n. made_by seat_of n q.view.known.seen ≡ q.view.known.mine) d.number adds.shown)

  -- an entry was added
  module _ (kind : EntryKind) (is : q.view.known.seen ≡ adding s.before p.view.known.number kind) (may : is_drivers watches kind ≡ true) (full : kind ≡ Halt JournalLimit → MAX_ENTRIES ≤ length s.before) where
    one_more : q.view.known.seen ≡ adding s.before 1 kind
    one_more = is ∙ ap (λ n. adding s.before n kind) d.number

    pub mine_more : q.view.known.mine ≡ p.view.known.mine ++ entry_by 1 kind ∷ []
    mine_more = s.mine (entry_by p.view.known.number kind ∷ []) is ∙ ap (λ n. p.view.known.mine ++ entry_by n kind ∷ []) d.number

    pub begins_more : IsPrefix p.view.known.seen q.view.known.seen
    begins_more = prefix_trans p.view.known.seen s.before q.view.known.seen s.begins (subst (IsPrefix s.before) (sym is) (prefix_append s.before _))

    deeds_more : history r.base q.view.known.seen ≡ deeds_with r.base (history r.base s.before) (entry_by 1 kind)
    deeds_more = ap (history r.base) one_more ∙ history-push r.base s.before (entry_by 1 kind)

    pub drives_added : (events' : List Event) (outs' : List Given) (items' : List Item) → runs_by 1 (deeds_with r.base (history r.base s.before) (entry_by 1 kind)) c ≡ events'
        → (CanEnd r.base c outs' → AreSaidOver r.base (runs_in r c) c q.view.known.seen outs' (utterances_of p.view.known.mine ++ uttered_by kind)) → IsPrefix items' (items_sent (history r.base q.view.known.seen)) → length items' ≡ flushes (entry_by 1 kind ∷ []) + flushes p.view.known.mine
        → Drives watches opening r c events' outs' items' q
    drives_added events' outs' items' runs said front count =
        let adds = adds_one silent_rule r p q step (is_drivers watches) kind s is may full in
        record {
          stands = stands_after silent_rule r (is_drivers watches) p q d.stands adds;
          number = adds.same.number ∙ d.number;
          rest = d.rest ++ entry_by 1 kind ∷ [];
          mine = mine_more ∙ ap (λ es. es ++ entry_by 1 kind ∷ []) d.mine;
          kinds = all_append (λ e. is_drivers watches e.kind ≡ true) d.rest (entry_by 1 kind ∷ []) d.kinds (may, tt);
          there = there_beyond r.base c p.view.known.seen q.view.known.seen begins_more d.there;
          runs = ap (λ ds. runs_by 1 ds c) deeds_more ∙ runs;
          said = λ can. subst (AreSaidOver r.base (runs_in r c) c q.view.known.seen outs') (sym (ap utterances_of mine_more ∙ utterances-push p.view.known.mine (entry_by 1 kind))) (said can);
          front = front;
          count = count ∙ omega (arith, flushes-append p.view.known.mine (entry_by 1 kind ∷ []), ap flushes mine_more);
        }

    -- an entry that ends no run, says nothing and flushes nothing
    pub drives_calm : is_finish_of c kind ≡ false → uttered_by kind ≡ [] → is_flush kind ≡ false → Drives watches opening r c events outs items q
    drives_calm unfinished unsaid unflushed =
        drives_added events outs items
        (rw (unfinished) runs_before)
        (λ can. subst (AreSaidOver r.base (runs_in r c) c q.view.known.seen outs) (sym (ap (λ more. utterances_of p.view.known.mine ++ more) unsaid ∙ append-nil (utterances_of p.view.known.mine)))
        (said_later r.base (runs_in r c) c p.view.known.seen q.view.known.seen begins_more outs (utterances_of p.view.known.mine) (d.said can)))
        (front_beyond r.base c items p.view.known.seen q.view.known.seen begins_more d.front)
        (d.count ∙ rw unflushed (omega arith))

-- none of these entries is by this seat
pub others_seat : (k seat : ℕ) → seat ≡ k → (h : List Entry) → made_by seat_of k h ≡ [] → AllByRecursion (λ e. seat_of e ≢ seat) h
others_seat k seat is h none = at h (others_of k h none)
  where
    at : (h : List Entry) → AllByRecursion (λ e. (seat_of e == k) ≡ false) h → AllByRecursion (λ e. seat_of e ≢ seat) h
    at [] all = tt
    at (e ∷ h) all = (λ same. true≢false (sym (eq-eqb (seat_of e) k (same ∙ is)) ∙ all.0), at h all.1)
