-- The events that wait for the calls of a history, in one list with the numbers of their calls.
use Rattle.std.proofs.Common.{◌≡◌, ℕ, zero, suc, ◌+◌, ◌<◌, ◌≤◌, Bool, true, false, ◌==◌, List, [], ◌∷◌, ◌++◌, length, map, drop, if◌then◌else◌, refl, ap, sym, ◌∙◌, subst, arith, length-append}
use Rattle.std.proofs.lemmas.Bool.{true≢false, false≢true, eqb-true, not-true, and_parts}
use Rattle.std.proofs.lemmas.List.{drop-drop, drop-append-le, map-append}
use Rattle.std.specs.List.{list_any}
use Rattle.rpc_handlers.specs.declared.event.Event.{Event}
use Rattle.rpc_journal.specs.declared.entry.EntryKind.{EntryKind}
use Rattle.rpc_journal.specs.declared.entry.EntryKind.TheVariants.{Start}
use Rattle.rpc_journal.specs.declared.waiting.Waiting.{Waiting}
use Rattle.rpc_journal.specs.Calls.{of_call, is_start_of}
use Rattle.rpc_journal.specs.Effect.{Deed}
use Rattle.rpc_journal.specs.Items.{is_ready}
use Rattle.rpc_journal.specs.Kinds.{is_empty}
use Rattle.rpc_journal.specs.Queues.{drops_of, puts_since, starts_since, waiting_of}

-- without the events of these calls
abbrev pub without : List ℕ → List (ℕ × Event) → List (ℕ × Event)
without drops [] = []
without drops (x ∷ xs) = if list_any (λ c. c == x.0) drops then without drops xs else x ∷ without drops xs

-- without the oldest event of c
abbrev pub taking : ℕ → List (ℕ × Event) → List (ℕ × Event)
taking c [] = []
taking c (x ∷ xs) = if x.0 == c then xs else x ∷ taking c xs

-- a Start takes the oldest event of its call
abbrev pub begun : EntryKind → List (ℕ × Event) → List (ℕ × Event)
begun (Start c) xs = taking c xs
begun _ xs = xs

-- the events that wait after a deed
abbrev pub pending_after : Deed → List (ℕ × Event) → List (ℕ × Event)
pending_after d xs = without d.does.drops (begun d.entry.kind xs) ++ d.does.puts

-- these events wait, and no call had more Starts than events
pub record Pending (ds : List Deed) (xs : List (ℕ × Event)) : Type 0 where
  pub even : (c : ℕ) → starts_since ds c ≤ length (puts_since ds c)
  pub same : (c : ℕ) → of_call c xs ≡ map (λ w. w.event) (waiting_of ds c)

of_call-append : (c : ℕ) (xs ys : List (ℕ × Event)) → of_call c (xs ++ ys) ≡ of_call c xs ++ of_call c ys
of_call-append c [] ys = refl
of_call-append c (x ∷ xs) ys = at (x.0 == c) (of_call-append c xs ys)
  where
    at : (b : Bool) → of_call c (xs ++ ys) ≡ of_call c xs ++ of_call c ys
        → (if b then x.1 ∷ of_call c (xs ++ ys) else of_call c (xs ++ ys)) ≡ (if b then x.1 ∷ of_call c xs else of_call c xs) ++ of_call c ys
    at true same = ap (λ es. x.1 ∷ es) same
    at false same = same

without_dropped : (c : ℕ) (drops : List ℕ) (xs : List (ℕ × Event)) → list_any (λ k. k == c) drops ≡ true → of_call c (without drops xs) ≡ []
without_dropped c drops [] dropped = refl
without_dropped c drops (x ∷ xs) dropped =
    at (list_any (λ k. k == x.0) drops) refl (x.0 == c) refl (without_dropped c drops xs dropped)
  where
    at : (a : Bool) → list_any (λ k. k == x.0) drops ≡ a → (b : Bool) → (x.0 == c) ≡ b → of_call c (without drops xs) ≡ []
        → of_call c (if a then without drops xs else x ∷ without drops xs) ≡ []
    at true is b own rest = rest
    at false is true own rest =
        absurd (true≢false (sym dropped ∙ (ap (λ j. list_any (λ k. k == j) drops) (sym (eqb-true x.0 c own)) ∙ is)))
    at false is false own rest = rw own rest

without_kept : (c : ℕ) (drops : List ℕ) (xs : List (ℕ × Event)) → list_any (λ k. k == c) drops ≡ false → of_call c (without drops xs) ≡ of_call c xs
without_kept c drops [] kept = refl
without_kept c drops (x ∷ xs) kept =
    at (list_any (λ k. k == x.0) drops) refl (x.0 == c) refl (without_kept c drops xs kept)
  where
    at : (a : Bool) → list_any (λ k. k == x.0) drops ≡ a → (b : Bool) → (x.0 == c) ≡ b → of_call c (without drops xs) ≡ of_call c xs
        → of_call c (if a then without drops xs else x ∷ without drops xs) ≡ (if b then x.1 ∷ of_call c xs else of_call c xs)
    at true is true own rest =
        absurd (true≢false (sym is ∙ (ap (λ j. list_any (λ k. k == j) drops) (eqb-true x.0 c own) ∙ kept)))
    at true is false own rest = rest
    at false is true own rest = rw own (ap (λ es. x.1 ∷ es) rest)
    at false is false own rest = rw own rest

taking_same : (c : ℕ) (xs : List (ℕ × Event)) → of_call c (taking c xs) ≡ drop 1 (of_call c xs)
taking_same c [] = refl
taking_same c (x ∷ xs) = at (x.0 == c) refl (taking_same c xs)
  where
    at : (b : Bool) → (x.0 == c) ≡ b → of_call c (taking c xs) ≡ drop 1 (of_call c xs)
        → of_call c (if b then xs else x ∷ taking c xs) ≡ drop 1 (if b then x.1 ∷ of_call c xs else of_call c xs)
    at true own rest = refl
    at false own rest = rw own rest

taking_other : (c k : ℕ) (xs : List (ℕ × Event)) → (c == k) ≡ false → of_call k (taking c xs) ≡ of_call k xs
taking_other c k [] apart = refl
taking_other c k (x ∷ xs) apart = at (x.0 == c) refl (taking_other c k xs apart)
  where
    at : (b : Bool) → (x.0 == c) ≡ b → of_call k (taking c xs) ≡ of_call k xs
        → of_call k (if b then xs else x ∷ taking c xs) ≡ (if x.0 == k then x.1 ∷ of_call k xs else of_call k xs)
    at true own rest = let other : (x.0 == k) ≡ false = ap (λ j. j == k) (eqb-true x.0 c own) ∙ apart in rw other refl
    at false own rest = ap (λ es. if x.0 == k then x.1 ∷ es else es) rest

begun_started : (k : ℕ) (kind : EntryKind) (xs : List (ℕ × Event)) → is_start_of k kind ≡ true → of_call k (begun kind xs) ≡ drop 1 (of_call k xs)
begun_started k (Start c) xs starts = subst (λ j. of_call j (taking c xs) ≡ drop 1 (of_call j xs)) (eqb-true c k starts) (taking_same c xs)
begun_started k _ xs starts = absurd (false≢true starts)

begun_other : (k : ℕ) (kind : EntryKind) (xs : List (ℕ × Event)) → is_start_of k kind ≡ false → of_call k (begun kind xs) ≡ of_call k xs
begun_other k (Start c) xs other = taking_other c k xs other
begun_other k _ xs other = refl

some_left : (n : ℕ) (ws : List Waiting) → is_empty (drop n ws) ≡ false → n < length ws
some_left zero [] some = absurd (true≢false some)
some_left zero (w ∷ ws) some = omega arith
some_left (suc n) [] some = absurd (true≢false some)
some_left (suc n) (w ∷ ws) some = let rest = some_left n ws some in omega (arith, rest)

abbrev put_at : ℕ → Event → Waiting
put_at n event = record { at = n; event = event }

events_put : (n : ℕ) (es : List Event) → map (λ (w : Waiting). w.event) (map (put_at n) es) ≡ es
events_put n [] = refl
events_put n (e ∷ es) = ap (λ rest. e ∷ rest) (events_put n es)

events-drop : (n : ℕ) (ws : List Waiting) → map (λ (w : Waiting). w.event) (drop n ws) ≡ drop n (map (λ (w : Waiting). w.event) ws)
events-drop zero ws = refl
events-drop (suc n) [] = refl
events-drop (suc n) (w ∷ ws) = events-drop n ws

even_at : (drops starts : Bool) (n : ℕ) (old new : List Waiting) → n ≤ length old → (starts ≡ true → n < length old)
    → (if drops then 0 else if starts then n + 1 else n) ≤ length ((if drops then [] else old) ++ new)
even_at true starts n old new even some = omega arith
even_at false true n old new even some = omega (arith, some refl, length-append old new)
even_at false false n old new even some = omega (arith, even, length-append old new)

same_at : (drops starts : Bool) (n : ℕ) (old new : List Waiting) (left puts : List Event) → n ≤ length old → (starts ≡ true → n < length old)
    → map (λ (w : Waiting). w.event) new ≡ puts → left ≡ map (λ (w : Waiting). w.event) (drop n old)
    → (if drops then [] else if starts then drop 1 left else left) ++ puts
    ≡ map (λ (w : Waiting). w.event) (drop (if drops then 0 else if starts then n + 1 else n) ((if drops then [] else old) ++ new))
same_at true starts n old new left puts even some put is = sym put
same_at false true n old new left puts even some put is =
    let within : n + 1 ≤ length old = omega (arith, some refl) in
    let first : drop 1 left ≡ map (λ (w : Waiting). w.event) (drop (n + 1) old) =
    ap (drop 1) is ∙ (sym (events-drop 1 (drop n old)) ∙ ap (map (λ (w : Waiting). w.event)) (drop-drop 1 n old)) in
    ap (λ front. front ++ puts) first
    ∙ (ap (λ back. map (λ (w : Waiting). w.event) (drop (n + 1) old) ++ back) (sym put)
    ∙ (sym (map-append (λ (w : Waiting). w.event) (drop (n + 1) old) new)
    ∙ ap (map (λ (w : Waiting). w.event)) (sym (drop-append-le (n + 1) old new within))))
same_at false false n old new left puts even some put is =
    ap (λ front. front ++ puts) is
    ∙ (ap (λ back. map (λ (w : Waiting). w.event) (drop n old) ++ back) (sym put)
    ∙ (sym (map-append (λ (w : Waiting). w.event) (drop n old) new)
    ∙ ap (map (λ (w : Waiting). w.event)) (sym (drop-append-le n old new even))))

pub no_deed : Pending [] []
no_deed = record { even = λ c. omega arith; same = λ c. refl }

-- a Start takes an event that waits
abbrev pub StartsReady : List Deed → EntryKind → Type 0
StartsReady ds kind = (c : ℕ) → is_start_of c kind ≡ true → is_empty (waiting_of ds c) ≡ false

module _ (ds : List Deed) (d : Deed) (xs : List (ℕ × Event)) (pending : Pending ds xs) (ready : StartsReady ds d.entry.kind) where
  some_event : (c : ℕ) → is_start_of c d.entry.kind ≡ true → starts_since ds c < length (puts_since ds c)
  some_event c starts = some_left (starts_since ds c) (puts_since ds c) (ready c starts)

  -- of the events left, those of c
  left_of : (c : ℕ) (drops starts : Bool) → drops_of d c ≡ drops → is_start_of c d.entry.kind ≡ starts
      → of_call c (without d.does.drops (begun d.entry.kind xs)) ≡ (if drops then [] else if starts then drop 1 (of_call c xs) else of_call c xs)
  left_of c true starts dropped is = without_dropped c d.does.drops (begun d.entry.kind xs) dropped
  left_of c false true kept is = without_kept c d.does.drops (begun d.entry.kind xs) kept ∙ begun_started c d.entry.kind xs is
  left_of c false false kept is = without_kept c d.does.drops (begun d.entry.kind xs) kept ∙ begun_other c d.entry.kind xs is

  pub pending_step : Pending (d ∷ ds) (pending_after d xs)
  pending_step = record {
    even = λ c. even_at (drops_of d c) (is_start_of c d.entry.kind) (starts_since ds c) (puts_since ds c) _ (pending.even c) (some_event c);
    same = λ c.
        of_call-append c (without d.does.drops (begun d.entry.kind xs)) d.does.puts
        ∙ (ap (λ es. es ++ of_call c d.does.puts) (left_of c (drops_of d c) (is_start_of c d.entry.kind) refl refl)
        ∙ same_at (drops_of d c) (is_start_of c d.entry.kind) (starts_since ds c) (puts_since ds c)
        (map (put_at (length ds)) (of_call c d.does.puts)) (of_call c xs) (of_call c d.does.puts) (pending.even c) (some_event c)
        (events_put (length ds) (of_call c d.does.puts)) (pending.same c));
  }

-- an event waits for a call that is ready
pub some_waits : (ds : List Deed) (c : ℕ) → is_ready ds c ≡ true → is_empty (waiting_of ds c) ≡ false
some_waits ds c ready = not-true _ (and_parts _ _ (and_parts _ _ (and_parts _ _ (and_parts _ _ ready).0).0).0).0
