-- An answer is read field by field.
use Rattle.std.proofs.Common.{◌≡◌, ℕ, ◌^◌, ◌<◌, Option, Some, None, List, [], ◌∷◌, ◌++◌, codes, refl, sym, ◌∙◌, ap, append_assoc, append-nil, inl, arith}
use Rattle.std.specs.Prelude.{◌≢◌}
use Rattle.std.specs.Fmt.{decimal}
use Rattle.std.proofs.lemmas.List.Elements.{All-head}
use Rattle.hex.specs.Hex.{IsBytes, encode_lower}
use Rattle.rpc_handlers.specs.declared.answer.Answer.{Answer}
use Rattle.rpc_handlers.specs.declared.answer.End.{End}
use Rattle.rpc_handlers.specs.declared.answer.Out.{Out}
use Rattle.text_fields.specs.Splits.{Lacks}
use Rattle.journal_text.specs.Fields.{IsFirstField}
use Rattle.journal_text.specs.Finds.{Finds}
use Rattle.journal_text.specs.Line.{item_text, items_text}
use Rattle.journal_text.specs.Reading.{AreItems, IsAnswer, IsEnd, IsItem}
use Rattle.journal_text.proofs.FieldLemmas.{IsBlankLed, end_lacks, item_lacks, number_lacks, one_field}
use Rattle.journal_text.proofs.FindLemmas.{finds_none, finds_some, none_is}

-- a dash is no number and payload
no_dash : (digits rest : List ℕ) → Lacks 45 digits → digits ++ 58 ∷ rest ≡ 45 ∷ [] → ⊥
no_dash [] rest lacks same = let e : ◌≡◌ {A = ℕ} 58 45 = cc in omega (arith, e)
no_dash (x ∷ digits) rest lacks same = All-head (λ b. b ≢ 45) x digits lacks cc

dash_alone : (text : List ℕ) (end : Option End) → text ≡ codes "-" → IsEnd text end → None ≡ end
dash_alone text None dash is = refl
dash_alone text (Some end) dash is =
    absurd
    (no_dash (decimal is.number) (encode_lower end.payload)
    (number_lacks is.number 45 (omega (arith, is.fits)) (inl (omega arith))) (sym is.spelled ∙ dash))

-- a dash is the end that isn't given
pub dash_found : (text : List ℕ) → text ≡ codes "-" → Finds (Some None) (IsEnd text)
dash_found text dash = finds_some (IsEnd text) None dash (λ end is. dash_alone text end dash is)

abbrev IsPayload : List ℕ → List ℕ → Type 0
IsPayload text bytes = (text ≡ encode_lower bytes) × IsBytes bytes

unread : (text payload : List ℕ) (number : ℕ) → (text ≡ codes "-" → ⊥)
    → ((n : ℕ) (rest : List ℕ) → n < 2 ^ 32 → text ≡ decimal n ++ 58 ∷ rest → (number ≡ n) × (payload ≡ rest))
    → Finds None (IsPayload payload) → (end : Option End) → IsEnd text end → ⊥
unread text payload number other only none None is = other is
unread text payload number other only none (Some end) is =
    none_is (IsPayload payload) end.payload none ((only is.number _ is.fits is.spelled).1, is.payload)

-- behind the number stands no payload
pub end_unread : (text payload : List ℕ) (number : ℕ) (found : Option (List ℕ)) → (text ≡ codes "-" → ⊥)
    → ((n : ℕ) (rest : List ℕ) → n < 2 ^ 32 → text ≡ decimal n ++ 58 ∷ rest → (number ≡ n) × (payload ≡ rest))
    → Finds found (IsPayload payload) → found ≡ None → Finds None (IsEnd text)
end_unread text payload number found other only read is =
    finds_none (IsEnd text) (unread text payload number other only (rw is at read))

-- the items of an answer have a blank in front of each
items_led : (items : List Out) → IsBlankLed (items_text items)
items_led [] = tt
items_led (item ∷ items) = refl

-- an answer's first field is its end, and its items stand behind it
pub answer_parts :
    (text field rest : List ℕ) (a : Answer) → IsFirstField text field rest → IsBlankLed rest → IsAnswer text a →
    IsEnd field a.end × AreItems rest a.items
answer_parts text field rest a first led is =
    let led_rest : IsBlankLed is.rest = rw is.items.spelled (items_led a.items) in
    let parts = one_field is.front is.rest field rest (end_lacks 32 is.front a.end (omega arith) is.ends) first.lacks led_rest
    led (sym is.spelled ∙ first.spelled) in
    (rw parts.0 at is.ends, rw parts.1 at is.items)

-- what has a first item
pub record FrontItem (field rest : List ℕ) (items : List Out) : Type 0 where
  pub item : Out
  pub more : List Out
  pub whole : items ≡ item ∷ more
  pub first : IsItem field item
  pub others : AreItems rest more

-- behind a blank, the first field is the first item
pub front_item :
    (text field rest : List ℕ) (items : List Out) → IsFirstField text field rest → IsBlankLed rest →
    AreItems (32 ∷ text) items → FrontItem field rest items
front_item text field rest [] first led is = absurd (cc (is.spelled))
front_item text field rest (item ∷ more) first led is =
    let behind_blank : text ≡ item_text item ++ items_text more = cc (is.spelled) in
    let parts = one_field field rest (item_text item) (items_text more) first.lacks (item_lacks 32 item (omega arith) is.fit.0)
    led (items_led more) (sym first.spelled ∙ behind_blank) in
    record {
      item = item;
      more = more;
      whole = refl;
      first = record { spelled = parts.0; fits = is.fit.0 };
      others = record { spelled = parts.1; fit = is.fit.1 };
    }

-- an item in front of items
pub with_item :
    (text field rest : List ℕ) (item : Out) (more : List Out) → IsFirstField text field rest → IsItem field item →
    AreItems rest more → AreItems (32 ∷ text) (item ∷ more)
with_item text field rest item more first one others = record {
  spelled = ap (λ bytes. 32 ∷ bytes) (rw (first.spelled, one.spelled, others.spelled) refl);
  fit = (one.fits, others.fit);
}

-- the text is read as far as these items, and this is left of it
pub record HasRead (whole left : List ℕ) (items : List Out) : Type 0 where
  pub so : (more : List Out) → AreItems left more → AreItems whole (items ++ more)
  pub only : (all : List Out) → AreItems whole all → (more : List Out) × ((all ≡ items ++ more) × AreItems left more)

pub nothing_read : (whole : List ℕ) → HasRead whole whole []
nothing_read whole = record {
  so = λ more is. is;
  only = λ all is. (all, (refl, is));
}

-- one more item
pub item_read :
    (whole text field rest : List ℕ) (items : List Out) (item : Out) (found : Option Out) → HasRead whole (32 ∷ text) items →
    IsFirstField text field rest → IsBlankLed rest → Finds found (IsItem field) → found ≡ Some item →
    HasRead whole rest (items ++ item ∷ [])
item_read whole text field rest items item found read first led finds is =
    let here : Finds (Some item) (IsItem field) = rw is at finds in
    record {
      so = λ more others. rw (append_assoc items (item ∷ []) more)
          (read.so (item ∷ more) (with_item text field rest item more first here.some others));
      only = λ all so.
          let before = read.only all so in
          let front = front_item text field rest before.0 first led before.1.1 in
          let same : item ≡ front.item = cc (here.only front.item front.first) in (
            front.more,
            (before.1.0 ∙ ap (λ xs. items ++ xs) (front.whole ∙ ap (λ x. x ∷ front.more) (sym same)) ∙ sym (append_assoc items (item ∷ []) front.more), front.others),
          );
    }

-- a field that is no item
pub item_unread :
    (whole text field rest : List ℕ) (items : List Out) (found : Option Out) → HasRead whole (32 ∷ text) items →
    IsFirstField text field rest → IsBlankLed rest → Finds found (IsItem field) → found ≡ None → Finds None (AreItems whole)
item_unread whole text field rest items found read first led finds is =
    let here : Finds None (IsItem field) = rw is at finds in
    finds_none (AreItems whole) (λ all so.
    let before = read.only all so in
    let front = front_item text field rest before.0 first led before.1.1 in
    none_is (IsItem field) front.item here front.first)

no_more : (more : List Out) → AreItems [] more → more ≡ []
no_more [] is = refl
no_more (item ∷ more) is = absurd (cc (is.spelled))

-- nothing is left
pub all_read : (whole : List ℕ) (items : List Out) → HasRead whole [] items → Finds (Some items) (AreItems whole)
all_read whole items read =
    finds_some (AreItems whole) items (rw append-nil at (read.so [] (record { spelled = refl; fit = tt }))) (λ all so.
    let rest = read.only all so in
    sym (append-nil items) ∙ ap (λ xs. items ++ xs) (sym (no_more rest.0 rest.1.1)) ∙ sym rest.1.0)

-- the first field is no end
pub answer_without_end :
    (text field rest : List ℕ) (found : Option (Option End)) → IsFirstField text field rest → IsBlankLed rest →
    Finds found (IsEnd field) → found ≡ None → Finds None (IsAnswer text)
answer_without_end text field rest found first led finds is =
    let here : Finds None (IsEnd field) = rw is at finds in
    finds_none (IsAnswer text) (λ a so. none_is (IsEnd field) a.end here (answer_parts text field rest a first led so).0)

-- behind the end stand no items
pub answer_without_items :
    (text field rest : List ℕ) (found : Option (List Out)) → IsFirstField text field rest → IsBlankLed rest →
    Finds found (AreItems rest) → found ≡ None → Finds None (IsAnswer text)
answer_without_items text field rest found first led finds is =
    let here : Finds None (AreItems rest) = rw is at finds in
    finds_none (IsAnswer text) (λ a so. none_is (AreItems rest) a.items here (answer_parts text field rest a first led so).1)

same_answer :
    (a : Answer) (items : List Out) (end : Option End) → items ≡ a.items → end ≡ a.end → record { items = items; end = end } ≡ a
same_answer a items end same_items same_end = rw (same_items, same_end) refl

-- an end and items
pub answer_read :
    (text field rest : List ℕ) (end : Option End) (items : List Out) (found_end : Option (Option End)) (found_items : Option (List Out)) →
    IsFirstField text field rest → IsBlankLed rest → Finds found_end (IsEnd field) → found_end ≡ Some end →
    Finds found_items (AreItems rest) → found_items ≡ Some items →
    Finds (Some (record { items = items; end = end })) (IsAnswer text)
answer_read text field rest end items found_end found_items first led finds_end is_end finds_items are_items =
    let here : Finds (Some end) (IsEnd field) = rw is_end at finds_end in
    let there : Finds (Some items) (AreItems rest) = rw are_items at finds_items in
    finds_some (IsAnswer text) (record { items = items; end = end })
    (record { front = field; rest = rest; spelled = first.spelled; ends = here.some; items = there.some })
    (λ a so.
    let parts = answer_parts text field rest a first led so in
    same_answer a items end (cc (there.only a.items parts.1)) (cc (here.only a.end parts.0)))
