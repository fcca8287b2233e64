-- What was said stays so, and goes on.
use Rattle.std.proofs.Common.{◌≡◌, ◌⊎◌, ◌&&◌, ◌||◌, ℕ, zero, suc, ◌<◌, Bool, true, false, not, List, [], ◌∷◌, ◌++◌, length, map, slice_get, Option, Some, None, option_map, option_to_list, refl, ap, sym, ◌∙◌, subst, inl, inr, arith, append_assoc, reverse}
use Rattle.std.proofs.lemmas.Bool.{and_parts as and_parts_of, false≢true, true≢false}
use Rattle.std.proofs.lemmas.List.{append-nil, reverse-append}
use Rattle.std.proofs.lemmas.List.Folds.{list_any-append}
use Rattle.std.specs.List.{AllByRecursion, list_any}
use mathlib.Core.List.{IsPrefix}
use Rattle.entry_lists.proofs.Prefixes.{prefix_trans}
use Rattle.rpc_ids.specs.declared.method.Kind.{Kind}
use Rattle.rpc_ids.specs.declared.method.Kind.TheVariants.{Unary, ServerStream, ClientStream, Bidi}
use Rattle.rpc_ids.specs.declared.method.Role.{Role}
use Rattle.rpc_ids.specs.declared.method.Role.TheVariants.{Client, Server}
use Rattle.rpc_ids.specs.declared.status.Status.{Status}
use Rattle.rpc_handlers.specs.declared.answer.Out.{Out}
use Rattle.rpc_handlers.specs.declared.answer.Out.TheVariants.{Say as Message, Begin, Append, Commit, Leave}
use Rattle.rpc_handlers.specs.declared.event.Event.{Event}
use Rattle.rpc_handlers.specs.Limits.{is_long_out}
use Rattle.rpc_journal.specs.declared.answers.SayRefused as say
use Rattle.rpc_journal.specs.declared.entry.Entry.{Entry}
use Rattle.rpc_journal.specs.declared.item.Item.{Item}
use Rattle.rpc_journal.specs.declared.setting.Setting.{Setting}
use Rattle.rpc_journal.specs.Calls.{call_at, calls, end_of, ends_of, has_end, is_cancel_of, is_cancelled, of_call}
use Rattle.rpc_journal.specs.Conditions.{IsCall}
use Rattle.rpc_journal.specs.Effect.{Deed, Opening}
use Rattle.rpc_journal.specs.Entries.{effect_of}
use Rattle.rpc_journal.specs.History.{deeds_of, history}
use Rattle.rpc_journal.specs.Items.{is_done, is_for, items_sent, sends_completion}
use Rattle.rpc_journal.specs.Kinds.{is_empty, is_server, is_unary, or_else, streams_out}
use Rattle.rpc_journal.specs.Lawful.{has_stream, is_unary_call}
use Rattle.rpc_journal.specs.Refusals.{message_refusal, out_refusal, refused_where}
use Rattle.rpc_journal.proofs.ItemLemmas.{items_begin}
use Rattle.live_client.specs.Histories.{AreActed, AreSaidOver, IsRefusedAt, IsShut, is_for_board, is_long_said, is_spoken}
use Rattle.live_client.specs.declared.asks.utterance.Utterance.{Utterance}
use Rattle.live_client.specs.declared.asks.utterance.Utterance.TheVariants.{Says, Completes}
use Rattle.live_client.specs.asks.Tasks.{Given, given_at, mails}

-- ---- a call that is shut or cancelled stays so

or_later : (a b : Bool) → b ≡ true → (a || b) ≡ true
or_later true b is = refl
or_later false b is = is

and_parts : (a b d : Bool) → (b ≡ true → d ≡ true) → (a && b) ≡ true → (a && d) ≡ true
and_parts true b d more is = more is
and_parts false b d more is = is

some_stays : {A : Type 0} (xs more : List A) → not (is_empty xs) ≡ true → not (is_empty (xs ++ more)) ≡ true
some_stays [] more is = absurd (false≢true is)
some_stays (x ∷ xs) more is = refl

place_stays : {A : Type 0} (xs more : List A) (n : ℕ) → n < length xs → slice_get (xs ++ more) n ≡ slice_get xs n
place_stays [] more n below = absurd (omega arith)
place_stays (x ∷ xs) more zero below = refl
place_stays (x ∷ xs) more (suc n) below = place_stays xs more n (omega arith)

longer : {A : Type 0} (xs more : List A) (n : ℕ) → n < length xs → n < length (xs ++ more)
longer [] more n below = absurd (omega arith)
longer (x ∷ xs) more zero below = omega arith
longer (x ∷ xs) more (suc n) below = let rest = longer xs more n (omega arith) in omega arith

module _ (set : Setting) where
  pub ends_begin : (c : ℕ) (new old : List Entry) → (more : List Status) × (ends_of (deeds_of set (new ++ old)) c ≡ ends_of (deeds_of set old) c ++ more)
  ends_begin c [] old = ([], sym (append-nil (ends_of (deeds_of set old) c)))
  ends_begin c (e ∷ new) old =
      let rest = ends_begin c new old in
      let own : List Status = of_call c (effect_of set (deeds_of set (new ++ old)) e.kind).ends in
      (rest.0 ++ own, ap (λ s. s ++ own) rest.1 ∙ append_assoc (ends_of (deeds_of set old) c) rest.0 own)

  calls_begin : (new old : List Entry) → (more : List Opening) × (calls (deeds_of set (new ++ old)) ≡ calls (deeds_of set old) ++ more)
  calls_begin [] old = ([], sym (append-nil (calls (deeds_of set old))))
  calls_begin (e ∷ new) old =
      let rest = calls_begin new old in
      let own : List Opening = option_to_list (effect_of set (deeds_of set (new ++ old)) e.kind).opens in
      (rest.0 ++ own, ap (λ s. s ++ own) rest.1 ∙ append_assoc (calls (deeds_of set old)) rest.0 own)

  cancelled_from : (c : ℕ) (new old : List Entry) → is_cancelled (deeds_of set old) c ≡ true → is_cancelled (deeds_of set (new ++ old)) c ≡ true
  cancelled_from c [] old is = is
  cancelled_from c (e ∷ new) old is = or_later (is_cancel_of c e.kind) (is_cancelled (deeds_of set (new ++ old)) c) (cancelled_from c new old is)

  ended_from : (c : ℕ) (new old : List Entry) → has_end (deeds_of set old) c ≡ true → has_end (deeds_of set (new ++ old)) c ≡ true
  ended_from c new old is =
      let more = ends_begin c new old in
      subst (λ ends. not (is_empty ends) ≡ true) (sym more.1) (some_stays (ends_of (deeds_of set old) c) more.0 is)

  -- it is there, and without a stream
  abbrev streamless : ℕ → List Opening → Type 0
  streamless c os = (c < length os) × (has_stream set.role (slice_get os c) ≡ false)

  streamless_from : (c : ℕ) (new old : List Entry) → streamless c (calls (deeds_of set old)) → streamless c (calls (deeds_of set (new ++ old)))
  streamless_from c new old is =
      let more = calls_begin new old in
      let os = calls (deeds_of set old) in
      subst (streamless c) (sym more.1) (longer os more.0 c is.0, ap (has_stream set.role) (place_stays os more.0 c is.0) ∙ is.1)

  later_on : (P : List Deed → Type 0) → ((new old : List Entry) → P (deeds_of set old) → P (deeds_of set (new ++ old))) → (h later : List Entry) → IsPrefix h later → P (history set h) → P (history set later)
  later_on P goes h later begins is =
      subst (λ es. P (history set es)) begins.1
      (subst (λ es. P (deeds_of set es)) (sym (reverse-append h begins.0)) (goes (reverse begins.0) (reverse h) is))

  pub cancelled_later : (c : ℕ) (h later : List Entry) → IsPrefix h later → is_cancelled (history set h) c ≡ true → is_cancelled (history set later) c ≡ true
  cancelled_later c h later begins is = later_on (λ ds. is_cancelled ds c ≡ true) (cancelled_from c) h later begins is

  done_later : (c : ℕ) (h later : List Entry) → IsPrefix h later → is_done (history set h) c ≡ true → is_done (history set later) c ≡ true
  done_later c h later begins is =
      subst (λ es. is_done (history set es) c ≡ true) begins.1
      (let more = items_begin set h begins.0 in
      let test : Item → Bool = λ item. is_for c item.call && sends_completion item.act in
      subst (λ items. list_any test items ≡ true) more.1 (list_any-append test (items_sent (history set h)) more.0 ∙ rw is refl))

  pub shut_later : (c : ℕ) (h later : List Entry) → IsPrefix h later → IsShut set c (history set h) → IsShut set c (history set later)
  shut_later c h later begins (inl ended) = inl (later_on (λ ds. has_end ds c ≡ true) (ended_from c) h later begins ended)
  shut_later c h later begins (inr (inl none)) = inr (inl (later_on (λ ds. streamless c (calls ds)) (streamless_from c) h later begins none))
  shut_later c h later begins (inr (inr done)) =
      inr (inr (and_parts (not (is_server set.role)) (is_done (history set h) c) (is_done (history set later) c) (done_later c h later begins) done))

-- ---- what was said of a beginning was said of what goes on

module _ (set : Setting) (runs : List Entry → List Event) (c : ℕ) (h later : List Entry) (begins : IsPrefix h later) where
  acted_later : (outs : List Given) (says : List Utterance) → AreActed set c h outs says → AreActed set c later outs says
  acted_later [] says so = so
  acted_later (given ∷ outs) says (inl s) = inl (s.0, acted_later outs says s.1)
  acted_later (given ∷ outs) says (inr (inl s)) = inr (inl (s.0, s.1, s.2, acted_later outs s.1 s.3))
  acted_later (given ∷ outs) says (inr (inr s)) = inr (inr (s.0, cancelled_later set c h later begins s.1, acted_later outs says s.2))

  refused_later : (mail : ℕ) → IsRefusedAt set runs c h mail → IsRefusedAt set runs c later mail
  refused_later mail so = record { front = so.front; begins = prefix_trans so.front h later so.begins begins; came = so.came; shut = so.shut }

  pub said_later : (outs : List Given) (says : List Utterance) → AreSaidOver set runs c h outs says → AreSaidOver set runs c later outs says
  said_later [] says so = so
  said_later (given ∷ outs) says (inl s) = inl (s.0, s.1, said_later outs s.0 s.2)
  said_later (given ∷ outs) says (inr (inl s)) = inr (inl (s.0, said_later outs says s.1))
  said_later (given ∷ outs) says (inr (inr (inl s))) = inr (inr (inl (s.0, cancelled_later set c h later begins s.1, said_later outs says s.2)))
  said_later (given ∷ outs) says (inr (inr (inr s))) = inr (inr (inr (refused_later given.mail s.0, acted_later (given ∷ outs) says s.1)))

-- two ways to tell what a beginning of the history has run
module _ (set : Setting) (runs same : List Entry → List Event) (c : ℕ) (h : List Entry) (equal : (front : List Entry) → IsPrefix front h → same front ≡ runs front) where
  pub said_as : (outs : List Given) (says : List Utterance) → AreSaidOver set runs c h outs says → AreSaidOver set same c h outs says
  said_as [] says so = so
  said_as (given ∷ outs) says (inl s) = inl (s.0, s.1, said_as outs s.0 s.2)
  said_as (given ∷ outs) says (inr (inl s)) = inr (inl (s.0, said_as outs says s.1))
  said_as (given ∷ outs) says (inr (inr (inl s))) = inr (inr (inl (s.0, s.1, said_as outs says s.2)))
  said_as (given ∷ outs) says (inr (inr (inr s))) =
      inr (inr (inr (record { front = s.0.front; begins = s.0.begins; came = ap mails (equal s.0.front s.0.begins) ∙ s.0.came; shut = s.0.shut }, s.1)))

-- ---- one more is said, or left out

-- no frame takes it, it acts on the store of a call that was cancelled, or it is for the board in a call that is shut
abbrev pub IsLeft : Setting → ℕ → List Entry → Utterance → Type 0
IsLeft set c h out =
    (is_long_said out ≡ true) ⊎ (((is_for_board out ≡ false) × (is_cancelled (history set h) c ≡ true)) ⊎ ((is_for_board out ≡ true) × IsShut set c (history set h)))

pub long_spoken : (out : Out) → is_long_out out ≡ true → is_spoken out ≡ true
long_spoken (Message payload) is = refl
long_spoken (Begin session resource offset) is = is
long_spoken (Append session bytes) is = is
long_spoken (Commit session) is = is
long_spoken (Leave session) is = is

pub long_for_board : (out : Utterance) → is_long_said out ≡ true → is_for_board out ≡ true
long_for_board (Says out) is = long_spoken out is
long_for_board Completes is = absurd (false≢true is)

module _ (set : Setting) (runs : List Entry → List Event) (c : ℕ) (h : List Entry) (mail : ℕ) (out : Utterance) where
  abbrev last : List Given
  last = given_at mail out ∷ []

  acted_more : (outs : List Given) (says : List Utterance) → is_for_board out ≡ false → AreActed set c h outs says → AreActed set c h (outs ++ last) (says ++ out ∷ [])
  acted_more [] says acts so = inr (inl (acts, [], ap (λ s. s ++ out ∷ []) so, refl))
  acted_more (x ∷ outs) says acts (inl s) = inl (s.0, acted_more outs says acts s.1)
  acted_more (x ∷ outs) says acts (inr (inl s)) = inr (inl (s.0, s.1 ++ out ∷ [], ap (λ t. t ++ out ∷ []) s.2, acted_more outs s.1 acts s.3))
  acted_more (x ∷ outs) says acts (inr (inr s)) = inr (inr (s.0, s.1, acted_more outs says acts s.2))

  -- it was said: if it was for the board, in a call that wasn't shut
  pub said_more : (outs : List Given) (says : List Utterance) → (is_for_board out ≡ true → IsShut set c (history set h) → ⊥) → AreSaidOver set runs c h outs says → AreSaidOver set runs c h (outs ++ last) (says ++ out ∷ [])
  said_more [] says unshut so = inl ([], ap (λ s. s ++ out ∷ []) so, refl)
  said_more (x ∷ outs) says unshut (inl s) = inl (s.0 ++ out ∷ [], ap (λ t. t ++ out ∷ []) s.1, said_more outs s.0 unshut s.2)
  said_more (x ∷ outs) says unshut (inr (inl s)) = inr (inl (s.0, said_more outs says unshut s.1))
  said_more (x ∷ outs) says unshut (inr (inr (inl s))) = inr (inr (inl (s.0, s.1, said_more outs says unshut s.2)))
  said_more (x ∷ outs) says unshut (inr (inr (inr s))) = at (is_for_board out) refl
    where
      at : (b : Bool) → is_for_board out ≡ b → AreSaidOver set runs c h (x ∷ (outs ++ last)) (says ++ out ∷ [])
      at true speaks = absurd (unshut speaks (shut_later set c s.0.front h s.0.begins s.0.shut))
      at false acts = inr (inr (inr (s.0, acted_more (x ∷ outs) says acts s.1)))

  acted_left : (outs : List Given) (says : List Utterance) → IsLeft set c h out → AreActed set c h outs says → AreActed set c h (outs ++ last) says
  acted_left [] says (inl long) so = inl (long_for_board out long, so)
  acted_left [] says (inr (inl cut)) so = inr (inr (cut.0, cut.1, so))
  acted_left [] says (inr (inr shut)) so = inl (shut.0, so)
  acted_left (x ∷ outs) says left (inl s) = inl (s.0, acted_left outs says left s.1)
  acted_left (x ∷ outs) says left (inr (inl s)) = inr (inl (s.0, s.1, s.2, acted_left outs s.1 left s.3))
  acted_left (x ∷ outs) says left (inr (inr s)) = inr (inr (s.0, s.1, acted_left outs says left s.2))

  -- it was left out, when all runs of the history were so much mail
  pub said_left : (outs : List Given) (says : List Utterance) → mails (runs h) ≡ mail → IsLeft set c h out → AreSaidOver set runs c h outs says → AreSaidOver set runs c h (outs ++ last) says
  said_left [] says came (inl long) so = inr (inl (long, so))
  said_left [] says came (inr (inl cut)) so = inr (inr (inl (cut.0, cut.1, so)))
  said_left [] says came (inr (inr shut)) so = inr (inr (inr (record { front = h; begins = ([], append-nil h); came = came; shut = shut.1 }, inl (shut.0, so))))
  said_left (x ∷ outs) says came left (inl s) = inl (s.0, s.1, said_left outs s.0 came left s.2)
  said_left (x ∷ outs) says came left (inr (inl s)) = inr (inl (s.0, said_left outs says came left s.1))
  said_left (x ∷ outs) says came left (inr (inr (inl s))) = inr (inr (inl (s.0, s.1, said_left outs says came left s.2)))
  said_left (x ∷ outs) says came left (inr (inr (inr s))) = inr (inr (inr (s.0, acted_left (x ∷ outs) says left s.1)))

-- ---- what the table refuses is left out, and what it takes it takes of a call that isn't shut

first_is : {A : Type 0} (xs : List A) (x : A) → slice_get xs 0 ≡ Some x → not (is_empty xs) ≡ true
first_is [] x is = absurd cc
first_is (y ∷ xs) x is = refl

first_none : {A : Type 0} (xs : List A) → slice_get xs 0 ≡ None → not (is_empty xs) ≡ true → ⊥
first_none [] is some = false≢true some
first_none (y ∷ xs) is some = absurd cc

module _ (set : Setting) (h : List Entry) (c : ℕ) where
  abbrev ds : List Deed
  ds = history set h

  abbrev completed : Bool
  completed = not (is_server set.role) && is_done ds c

  message_left : (payload : List ℕ) (x : say.SayRefused) → IsCall set h c → message_refusal set ds c ≡ Some x → IsLeft set c h (Says (Message payload))
  message_left payload x there is = inr (inr (refl, at (end_of ds c) (has_stream set.role (call_at ds c)) completed refl refl refl is))
    where
      at : (o : Option Status) (b d : Bool) → end_of ds c ≡ o → has_stream set.role (call_at ds c) ≡ b → completed ≡ d
          → or_else (option_map say.TheVariants.Closed o) (or_else (refused_where (not b) say.TheVariants.NoStream) (refused_where d say.TheVariants.Completed)) ≡ Some x
          → IsShut set c ds
      at (Some e) b d ended streams done refused = inl (first_is (ends_of ds c) e ended)
      at None false d ended streams done refused = inr (inl (there.below, streams))
      at None true true ended streams done refused = inr (inr done)
      at None true false ended streams done refused = absurd (cc refused)

  action_left : (out : Out) (x y : say.SayRefused) → is_spoken out ≡ false → refused_where (is_cancelled ds c) y ≡ Some x → IsLeft set c h (Says out)
  action_left out x y acts is = at (is_cancelled ds c) refl is
    where
      at : (b : Bool) → is_cancelled ds c ≡ b → refused_where b y ≡ Some x → IsLeft set c h (Says out)
      at true cut refused = inr (inl (acts, cut))
      at false cut refused = absurd (cc refused)

  pub refused_left : (out : Out) (x : say.SayRefused) → IsCall set h c → out_refusal set ds c out ≡ Some x → IsLeft set c h (Says out)
  refused_left (Message payload) x there is = message_left payload x there is
  refused_left (Begin session resource offset) x there is = action_left (Begin session resource offset) x _ refl is
  refused_left (Append session bytes) x there is = action_left (Append session bytes) x _ refl is
  refused_left (Commit session) x there is = action_left (Commit session) x _ refl is
  refused_left (Leave session) x there is = action_left (Leave session) x _ refl is

  message_open : message_refusal set ds c ≡ None → IsShut set c ds → ⊥
  message_open is shut = at (end_of ds c) (has_stream set.role (call_at ds c)) completed refl refl refl is shut
    where
      at : (o : Option Status) (b d : Bool) → end_of ds c ≡ o → has_stream set.role (call_at ds c) ≡ b → completed ≡ d
          → or_else (option_map say.TheVariants.Closed o) (or_else (refused_where (not b) say.TheVariants.NoStream) (refused_where d say.TheVariants.Completed)) ≡ None
          → IsShut set c ds → ⊥
      at (Some e) b d ended streams done taken shut = absurd (cc taken)
      at None false d ended streams done taken shut = absurd (cc taken)
      at None true true ended streams done taken shut = absurd (cc taken)
      at None true false ended streams done taken (inl has) = first_none (ends_of ds c) ended has
      at None true false ended streams done taken (inr (inl none)) = true≢false (sym streams ∙ none.1)
      at None true false ended streams done taken (inr (inr has)) = false≢true (sym done ∙ has)

  pub taken_open : (out : Out) → out_refusal set ds c out ≡ None → is_spoken out ≡ true → IsShut set c ds → ⊥
  taken_open (Message payload) is speaks = message_open is
  taken_open (Begin session resource offset) is speaks = absurd (false≢true speaks)
  taken_open (Append session bytes) is speaks = absurd (false≢true speaks)
  taken_open (Commit session) is speaks = absurd (false≢true speaks)
  taken_open (Leave session) is speaks = absurd (false≢true speaks)

  -- the end of the stream is refused where the call is shut, and taken where it has a stream and isn't shut
  unary_quiet : (role : Role) (o : Option Opening) → is_unary_call o ≡ true → has_stream role o ≡ false
  unary_quiet role None is = refl
  unary_quiet role (Some o) is = at role o.method.kind is
    where
      at : (role : Role) (kind : Kind) → is_unary kind ≡ true → streams_out role kind ≡ false
      at Server Unary is = refl
      at Client Unary is = refl
      at role ServerStream is = absurd (false≢true is)
      at role ClientStream is = absurd (false≢true is)
      at role Bidi is = absurd (false≢true is)

  abbrev pub end_refusal : Option say.SayRefused
  end_refusal = or_else (option_map say.TheVariants.Closed (end_of ds c)) (or_else (refused_where (is_unary_call (call_at ds c)) say.TheVariants.NoStream) (refused_where (is_done ds c) say.TheVariants.Completed))

  pub end_left : (x : say.SayRefused) → set.role ≡ Client → IsCall set h c → end_refusal ≡ Some x → IsLeft set c h Completes
  end_left x client there is = inr (inr (refl, at (end_of ds c) (is_unary_call (call_at ds c)) (is_done ds c) refl refl refl is))
    where
      at : (o : Option Status) (b d : Bool) → end_of ds c ≡ o → is_unary_call (call_at ds c) ≡ b → is_done ds c ≡ d
          → or_else (option_map say.TheVariants.Closed o) (or_else (refused_where b say.TheVariants.NoStream) (refused_where d say.TheVariants.Completed)) ≡ Some x
          → IsShut set c ds
      at (Some e) b d ended unary done refused = inl (first_is (ends_of ds c) e ended)
      at None true d ended unary done refused = inr (inl (there.below, unary_quiet set.role (call_at ds c) unary))
      at None false true ended unary done refused = inr (inr (ap (λ role. not (is_server role) && is_done ds c) client ∙ done))
      at None false false ended unary done refused = absurd (cc refused)

  pub end_open : has_stream set.role (call_at ds c) ≡ true → end_refusal ≡ None → IsShut set c ds → ⊥
  end_open streams is shut = at (end_of ds c) (is_unary_call (call_at ds c)) (is_done ds c) refl refl refl is shut
    where
      at : (o : Option Status) (b d : Bool) → end_of ds c ≡ o → is_unary_call (call_at ds c) ≡ b → is_done ds c ≡ d
          → or_else (option_map say.TheVariants.Closed o) (or_else (refused_where b say.TheVariants.NoStream) (refused_where d say.TheVariants.Completed)) ≡ None
          → IsShut set c ds → ⊥
      at (Some e) b d ended unary done taken shut = absurd (cc taken)
      at None true d ended unary done taken shut = absurd (cc taken)
      at None false true ended unary done taken shut = absurd (cc taken)
      at None false false ended unary done taken (inl has) = first_none (ends_of ds c) ended has
      at None false false ended unary done taken (inr (inl none)) = true≢false (sym streams ∙ none.1)
      at None false false ended unary done taken (inr (inr has)) = false≢true (sym done ∙ (and_parts_of (not (is_server set.role)) (is_done ds c) has).1)

-- ---- what is given before the first mail, and is for the board

module _ (set : Setting) (runs : List Entry → List Event) (c : ℕ) (h : List Entry) where
  none_acted : (given : List Utterance) (says : List Utterance) → AllByRecursion (λ out. is_for_board out ≡ true) given → AreActed set c h (map (given_at 0) given) says → says ≡ []
  none_acted [] says all so = so
  none_acted (out ∷ given) says all (inl s) = none_acted given says all.1 s.1
  none_acted (out ∷ given) says all (inr (inl s)) = absurd (true≢false (sym all.0 ∙ s.0))
  none_acted (out ∷ given) says all (inr (inr s)) = absurd (true≢false (sym all.0 ∙ s.0))

  -- the first of them are said
  pub first_said : (given : List Utterance) (says : List Utterance) → AllByRecursion (λ out. is_for_board out ≡ true) given → AllByRecursion (λ out. is_long_said out ≡ false) given
      → AreSaidOver set runs c h (map (given_at 0) given) says → (unsaid : List Utterance) × (given ≡ says ++ unsaid) × ((unsaid ≡ []) ⊎ IsRefusedAt set runs c h 0)
  first_said [] says board short so = ([], sym (append-nil says ∙ so), inl refl)
  first_said (out ∷ given) says board short (inl s) =
      let rest = first_said given s.0 board.1 short.1 s.2 in
      (rest.0, ap (λ more. out ∷ more) rest.1 ∙ ap (λ more. more ++ rest.0) (sym s.1), rest.2)
  first_said (out ∷ given) says board short (inr (inl s)) = absurd (true≢false (sym s.0 ∙ short.0))
  first_said (out ∷ given) says board short (inr (inr (inl s))) = absurd (true≢false (sym board.0 ∙ s.0))
  first_said (out ∷ given) says board short (inr (inr (inr s))) = (out ∷ given, ap (λ more. more ++ out ∷ given) (sym (none_acted (out ∷ given) says board s.1)), inr s.0)
