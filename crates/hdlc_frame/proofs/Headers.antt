-- The writer of an address, group by group.
use Rattle.std.proofs.Common.{◌≡◌, ℕ, ◌+◌, ◌*◌, ◌/◌, ◌%◌, ◌^◌, ◌<◌, ◌≤◌, zero, suc, List, [], ◌∷◌, ◌++◌, refl, sym, ap, ◌∙◌, append_assoc, length, arith}
use Rattle.std.specs.Int.{to_le_bytes, w32}
use Rattle.std.proofs.lemmas.Grind.{flat_map-append}
use Rattle.std.proofs.lemmas.Bool.{lt-ltb, le-ltb}
use Rattle.std.proofs.lemmas.List.{append-nil, length-append}
use Rattle.std.proofs.Math.Nat.{pow-suc}
use Rattle.hdlc_frame.specs.declared.octets.TheConstants.{FLAG, UI_CONTROL}
use Rattle.hdlc_frame.specs.CheckSequence.{check_sequence_of}
use Rattle.hdlc_frame.specs.Encoded.{address_groups, encoded_ui, shortest_address, text_of, text_of_octet, ui_content}

pub text_of-append : (xs ys : List ℕ) → text_of (xs ++ ys) ≡ text_of xs ++ text_of ys
unfolding text_of
text_of-append xs ys = flat_map-append text_of_octet xs ys

pub text_of_one : (x : ℕ) → text_of (x ∷ []) ≡ text_of_octet x
unfolding text_of
text_of_one x = append-nil (text_of_octet x)

pub text_of_none : text_of [] ≡ []
unfolding text_of
text_of_none = refl

pub groups_more :
    (n address : ℕ) → 128 ≤ address → address_groups (suc n) address ≡ (address % 128 * 2) ∷ address_groups n (address / 128)
unfolding address_groups
groups_more n address h = rw (le-ltb address 128 h) refl

pub groups_last : (n address : ℕ) → address < 128 → address_groups (suc n) address ≡ (address * 2 + 1) ∷ []
unfolding address_groups
groups_last n address h = rw (lt-ltb address 128 h) refl

-- what was written of an address, and what is left of it
pub record Begun (address rest : ℕ) (front : List ℕ) : Type 0 where
  pub n : ℕ
  pub some : 0 < n
  pub enough : rest < 128 ^ n
  pub groups : shortest_address address ≡ front ++ address_groups n rest
  pub five : length front + n ≡ 5

pub begun_none : (address : ℕ) → address < 2 ^ 32 → Begun address address []
begun_none address h = record { n = 5; some = omega arith; enough = omega arith; groups = refl; five = refl }

below_power : (n rest : ℕ) → 128 ≤ rest → rest < 128 ^ n → (m : ℕ) × (n ≡ suc m) × (0 < m) × (rest / 128 < 128 ^ m)
below_power zero rest h below = absurd (omega arith)
below_power (suc zero) rest h below = absurd (omega arith)
below_power (suc (suc m)) rest h below =
    let e : 128 ^ suc (suc m) ≡ 128 ^ suc m * 128 = pow-suc 128 (suc m) in
    (suc m, refl, omega arith, omega arith)

pub begun_more : (address rest : ℕ) (front : List ℕ) → 128 ≤ rest → Begun address rest front → Begun address (rest / 128) (front ++ (rest % 128 * 2) ∷ [])
begun_more address rest front h b =
    let x = rest % 128 * 2 in
    let fuel = below_power b.n rest h b.enough in
    let five = b.five in
    record {
      n = fuel.0;
      some = fuel.2;
      enough = fuel.3;
      groups =
          b.groups ∙ ap (λ n. front ++ address_groups n rest) fuel.1 ∙ ap (λ l. front ++ l) (groups_more fuel.0 rest h) ∙
          sym (append_assoc front (x ∷ []) (address_groups fuel.0 (rest / 128)));
      five = omega (arith, five, fuel.1, length-append front (x ∷ []));
    }

-- at most three more octets are to come: a group, the last one, the control octet
pub begun_room : (address rest : ℕ) (front : List ℕ) → Begun address rest front → length front ≤ 4
begun_room address rest front b = let some = b.some in let five = b.five in omega arith

-- the last group, and the control octet behind it
positive : (n : ℕ) → 0 < n → (m : ℕ) × (n ≡ suc m)
positive zero h = absurd (omega arith)
positive (suc m) h = (m, refl)

pub header_is :
    (address rest control : ℕ) (front : List ℕ) → rest < 128 → Begun address rest front →
    (front ++ (rest * 2 + 1) ∷ []) ++ control ∷ [] ≡ shortest_address address ++ control ∷ []
header_is address rest control front h b =
    let m = positive b.n b.some in
    ap (λ l. l ++ control ∷ [])
    (sym (b.groups ∙ ap (λ n. front ++ address_groups n rest) m.1 ∙ ap (λ l. front ++ l) (groups_last m.0 rest h)))

-- the whole frame, piece by piece
pub frame_written :
    (before header payload check whole : List ℕ) → whole ≡ (header ++ payload) ++ check →
    ((((before ++ FLAG ∷ []) ++ header) ++ payload) ++ check) ++ FLAG ∷ [] ≡ before ++ FLAG ∷ (whole ++ FLAG ∷ [])
frame_written before header payload check whole e = rw e (simp append_assoc)

pub ui_text :
    (address check : ℕ) (payload header : List ℕ) → header ≡ shortest_address address ++ UI_CONTROL ∷ [] → check ≡ check_sequence_of (header ++ payload) →
    text_of (ui_content address payload) ≡ (text_of header ++ text_of payload) ++ text_of (to_le_bytes w32 check)
unfolding ui_content
ui_text address check payload header spelled is =
    let whole : header ++ payload ≡ shortest_address address ++ UI_CONTROL ∷ payload =
    ap (λ l. l ++ payload) spelled ∙ append_assoc (shortest_address address) (UI_CONTROL ∷ []) payload
    in
    ap (λ l. text_of (l ++ to_le_bytes w32 (check_sequence_of l))) (sym whole) ∙
    ap (λ x. text_of ((header ++ payload) ++ to_le_bytes w32 x)) (sym is) ∙
    text_of-append (header ++ payload) (to_le_bytes w32 check) ∙
    ap (λ l. l ++ text_of (to_le_bytes w32 check)) (text_of-append header payload)

pub frame_steps :
    (address check : ℕ) (header payload checks before o1 o2 o3 o4 o5 : List ℕ) →
    o1 ≡ before ++ FLAG ∷ [] → o2 ≡ o1 ++ text_of header → o3 ≡ o2 ++ text_of payload → o4 ≡ o3 ++ text_of checks → o5 ≡ o4 ++ FLAG ∷ [] →
    header ≡ shortest_address address ++ UI_CONTROL ∷ [] → check ≡ check_sequence_of (header ++ payload) → checks ≡ to_le_bytes w32 check →
    o5 ≡ before ++ FLAG ∷ (text_of (ui_content address payload) ++ FLAG ∷ [])
frame_steps address check header payload checks before o1 o2 o3 o4 o5 e1 e2 e3 e4 e5 spelled is ec =
    e5 ∙
    ap (λ l. l ++ FLAG ∷ [])
    (e4 ∙ ap (λ l. l ++ text_of checks) (e3 ∙ ap (λ l. l ++ text_of payload) (e2 ∙ ap (λ l. l ++ text_of header) e1)) ∙
    ap (λ x. (((before ++ FLAG ∷ []) ++ text_of header) ++ text_of payload) ++ text_of x) ec) ∙
    frame_written before (text_of header) (text_of payload) (text_of (to_le_bytes w32 check)) (text_of (ui_content address payload))
    (ui_text address check payload header spelled is)

-- the text of a frame, in its five parts
pub frame_parts :
    (address check : ℕ) (header payload checks : List ℕ) → header ≡ shortest_address address ++ UI_CONTROL ∷ [] →
    check ≡ check_sequence_of (header ++ payload) → checks ≡ to_le_bytes w32 check →
    encoded_ui address payload ≡ ((((FLAG ∷ []) ++ text_of header) ++ text_of payload) ++ text_of checks) ++ FLAG ∷ []
frame_parts address check header payload checks spelled is ec =
    sym (frame_steps address check header payload checks [] _ _ _ _ _ refl refl refl refl refl spelled is ec)
