-- What goes out at a Tick: words of the transfer, and the ends of older sessions, told again.
use Rattle.std.proofs.Common.{◌≡◌, ◌≢◌, inl, inr, ℕ, zero, suc, ◌+◌, ◌<◌, ◌≤◌, ◌==◌, Bool, true, false, List, [], ◌∷◌, ◌++◌, length, map, flat_map, slice_get, Some, if◌then◌else◌, refl, ap, sym, ◌∙◌, subst, arith, length-append}
use Rattle.std.proofs.lemmas.Bool.{eqb-true, eqb-false}
use Rattle.std.proofs.lemmas.Grind.{flat_map-append}
use Rattle.std.proofs.lemmas.List.{append-nil, map-append}
use Rattle.std.specs.List.{AllByRecursion}
use Rattle.rpc_ids.specs.declared.status.Status.TheVariants.{Okay}
use Rattle.rpc_ids.specs.declared.method.Role.{Role}
use Rattle.rpc_ids.specs.declared.method.Role.TheVariants.{Server}
use Rattle.rpc_packet.specs.declared.call_name.CallName.{CallName}
use Rattle.rpc_handlers.specs.declared.answer.Out.{Out}
use Rattle.rpc_journal.specs.declared.item.Item.{Item}
use Rattle.rpc_journal.specs.declared.setting.Setting.{Setting}
use Rattle.rpc_journal.specs.Effect.{Deed, Opening}
use Rattle.rpc_journal.specs.Entries.{answer_item, made_from, messages_go}
use Rattle.rpc_journal.specs.Items.{is_done, packet_of, packets_of}
use Rattle.history_laws.proofs.messages.Members.{all_join}
use Rattle.transfer_words.specs.Saying.{Saying, says}
use Rattle.transfer_words.specs.Word.{Word, completion}
use Rattle.transfer_resume.specs.declared.side.Side.{Side}
use Rattle.transfer_resume.specs.Session.{Row}
use Rattle.transfer_resume.specs.Ticks.{stage_ticks}
use Rattle.transfer_resume.specs.Book.{in_session, row_says, spelled, spelled_all}
use Rattle.demo_services.specs.Transfer.{giving}
use Rattle.history_laws.specs.rounds.Streams.{items_of}
use Rattle.link_laws.specs.world.World.{Setup}
use Rattle.link_laws.specs.lossless_transfer.Shows.{Places, down_packet}
use Rattle.link_laws.specs.dropped_transfer.Passing.{IsCallThere, IsFromOlder, Passing, own, other, own_words, passing_packet}
use Rattle.link_laws.specs.dropped_transfer.Sessions.{AreBefore, AreSettled}
use Rattle.link_laws.proofs.dropped_transfer.Few.{TellsEnd, outs_at, settled_ticks}
use Rattle.link_laws.proofs.dropped_transfer.Numbers.{own_all, own_joined, own_packets}

module _ (k : Setup) (x : Places) where
  -- the packets of these items are a mix, whose words of the transfer are these
  pub record IsMix (items : List Item) (words : List Word) : Type 0 where
    pub mix : List Passing
    pub packets : packets_of items ≡ map (passing_packet x) mix
    pub own : own_words mix ≡ words
    pub may : AllByRecursion (IsFromOlder k x) mix

  pub no_mix : IsMix [] []
  no_mix = record { mix = []; packets = refl; own = refl; may = tt }

  pub both_mixed : (items more : List Item) (words others : List Word) → IsMix items words → IsMix more others → IsMix (items ++ more) (words ++ others)
  both_mixed items more words others a b = record {
    mix = a.mix ++ b.mix;
    packets =
        flat_map-append (λ (item : Item). packet_of item.act) items more
        ∙ (ap (λ ps. ps ++ packets_of more) a.packets
        ∙ (ap (λ ps. map (passing_packet x) a.mix ++ ps) b.packets ∙ sym (map-append (passing_packet x) a.mix b.mix)));
    own = own_joined a.mix b.mix ∙ (ap (λ ws. ws ++ own_words b.mix) a.own ∙ ap (λ ws. words ++ ws) b.own);
    may = all_join (IsFromOlder k x) a.mix b.mix a.may b.may;
  }

  -- words of the transfer
  own_may : (ws : List Word) → AllByRecursion (IsFromOlder k x) (map own ws)
  own_may [] = tt
  own_may (w ∷ ws) = (tt, own_may ws)

  pub words_mixed : (items : List Item) (ws : List Word) → packets_of items ≡ map (down_packet x) ws → IsMix items ws
  words_mixed items ws are = record { mix = map own ws; packets = are ∙ sym (own_packets x ws); own = own_all ws; may = own_may ws }

  -- what older sessions of a call say to a Tick
  module _ (c : ℕ) (name : CallName) (go : Bool) (call : IsCallThere k x name) where
    abbrev items : List Out → List Item
    items outs = flat_map (answer_item Server c name go) outs

    end_mixed : (id : ℕ) (ss : List Saying) → id < x.session → TellsEnd ss → IsMix (items (spelled_all (in_session id ss))) []
    end_mixed id ss before (inl none) = subst (λ (l : List Saying). IsMix (items (spelled_all (in_session id l))) []) (sym none) no_mix
    end_mixed id ss before (inr one) = subst (λ (l : List Saying). IsMix (items (spelled_all (in_session id l))) []) (sym one) (by_go go)
      where
        by_go : (b : Bool) → IsMix (flat_map (answer_item Server c name b) (spelled_all (in_session id (says (completion Okay) ∷ [])))) []
        by_go true = record { mix = other (record { name = name; session = id }) ∷ []; packets = refl; own = refl; may = ((before, call), tt) }
        by_go false = no_mix

    rows_joined : (side : Side) (t : ℕ) (r : Row) (rows : List Row)
        → items (outs_at side t (r ∷ rows)) ≡ items (spelled_all (row_says (stage_ticks side t) r)) ++ items (outs_at side t rows)
    rows_joined side t r rows =
        ap items (map-append spelled (row_says (stage_ticks side t) r) (flat_map (row_says (stage_ticks side t)) rows))
        ∙ flat_map-append (answer_item Server c name go) (spelled_all (row_says (stage_ticks side t) r)) (outs_at side t rows)

    pub older_mixed : (side : Side) (t : ℕ) (rows : List Row) → AreSettled rows → AreBefore x.session rows → IsMix (items (outs_at side t rows)) []
    older_mixed side t [] settled before = no_mix
    older_mixed side t (r ∷ rows) settled before =
        subst (λ is. IsMix is []) (sym (rows_joined side t r rows))
        (both_mixed (items (spelled_all (row_says (stage_ticks side t) r))) (items (outs_at side t rows)) [] []
        (end_mixed r.id (stage_ticks side t r.stage).sayings before.0 (settled_ticks side t r.stage settled.0).tells) (older_mixed side t rows settled.1 before.1))

  -- in a call at the server
  pub call_mixed : (set : Setting) (ds : List Deed) (c : ℕ) (o : Opening) (side : Side) (t : ℕ) (rows : List Row) → set.role ≡ Server → IsCallThere k x o.name → AreSettled rows → AreBefore x.session rows
      → IsMix (items_of set ds c o (giving (outs_at side t rows))) []
  call_mixed set ds c o side t rows role call settled before =
      subst (λ (r : Role). IsMix (flat_map (answer_item r c o.name (messages_go r o.method.kind true (is_done ds c))) (outs_at side t rows)) []) (sym role)
      (older_mixed c o.name (messages_go Server o.method.kind true (is_done ds c)) call side t rows settled before)

-- of the calls with these openings, numbered from here on, those that pass a test, each with these items
module _ (test : ℕ → Opening → Bool) (f : ℕ × Opening → List Item) where
  abbrev pub items_from : ℕ → List Opening → List Item
  items_from n os = flat_map f (made_from n test (λ c o. (c, o)) os)

  -- the call is one of them
  pub record IsIn (n : ℕ) (os : List Opening) (c : ℕ) (o : Opening) : Type 0 where
    pub place : ℕ
    pub there : slice_get os place ≡ Some o
    pub number : c ≡ n + place
    pub passes : test c o ≡ true

  behind : (n : ℕ) (p : Opening) (os : List Opening) (c : ℕ) (o : Opening) → IsIn (n + 1) os c o → IsIn n (p ∷ os) c o
  behind n p os c o is = record { place = suc is.place; there = is.there; number = omega (arith, is.number); passes = is.passes }

  at_head : (n : ℕ) (p : Opening) (os : List Opening) → test n p ≡ true → IsIn n (p ∷ os) n p
  at_head n p os passes = record { place = 0; there = refl; number = omega arith; passes = passes }

  -- how many items there are, where each call has so many at most, and they are two at most
  abbrev EachFew : ℕ → ℕ → List Opening → Type 0
  EachFew most n os = (c : ℕ) (o : Opening) → IsIn n os c o → length (f (c, o)) ≤ most

  none_few : (n : ℕ) (os : List Opening) → ((c : ℕ) (o : Opening) → IsIn n os c o → ⊥) → length (items_from n os) ≤ 0
  none_few n [] none = omega arith
  none_few n (p ∷ os) none = at (test n p) refl (none_few (n + 1) os (λ c o is. none c o (behind n p os c o is)))
    where
      at : (b : Bool) → test n p ≡ b → length (items_from (n + 1) os) ≤ 0
          → length (flat_map f (if b then (n, p) ∷ made_from (n + 1) test (λ c o. (c, o)) os else made_from (n + 1) test (λ c o. (c, o)) os)) ≤ 0
      at true passes rest = absurd (none n p (at_head n p os passes))
      at false fails rest = rest

  one_few : (most n : ℕ) (os : List Opening) → EachFew most n os → ((c d : ℕ) (o p : Opening) → IsIn n os c o → IsIn n os d p → c ≡ d) → length (items_from n os) ≤ most
  one_few most n [] few same = omega arith
  one_few most n (q ∷ os) few same =
      at (test n q) refl (one_few most (n + 1) os (λ c o is. few c o (behind n q os c o is)) (λ c d o p first second. same c d o p (behind n q os c o first) (behind n q os d p second)))
    where
      at : (b : Bool) → test n q ≡ b → length (items_from (n + 1) os) ≤ most
          → length (flat_map f (if b then (n, q) ∷ made_from (n + 1) test (λ c o. (c, o)) os else made_from (n + 1) test (λ c o. (c, o)) os)) ≤ most
      at true passes rest =
          omega (
            arith,
            few n q (at_head n q os passes),
            none_few (n + 1) os (λ c o is. omega (arith, same c n o q (behind n q os c o is) (at_head n q os passes), is.number)),
            length-append (f (n, q)) (items_from (n + 1) os),
          )
      at false fails rest = rest

  pub two_few : (most n mine : ℕ) (os : List Opening) → EachFew most n os → ((c d : ℕ) (o p : Opening) → c ≢ mine → d ≢ mine → IsIn n os c o → IsIn n os d p → c ≡ d)
      → length (items_from n os) ≤ most + most
  two_few most n mine [] few same = omega arith
  two_few most n mine (q ∷ os) few same =
      at (test n q) refl
      (two_few most (n + 1) mine os (λ c o is. few c o (behind n q os c o is)) (λ c d o p apart away first second. same c d o p apart away (behind n q os c o first) (behind n q os d p second)))
    where
      -- behind one that is there, one more is
      alike : test n q ≡ true → (c d : ℕ) (o p : Opening) → IsIn (n + 1) os c o → IsIn (n + 1) os d p → c ≡ d
      alike passes c d o p first second = by (n == mine) refl (c == mine) refl (d == mine) refl
        where
          by : (a : Bool) → (n == mine) ≡ a → (b : Bool) → (c == mine) ≡ b → (e : Bool) → (d == mine) ≡ e → c ≡ d
          by a head true here true there = omega (arith, eqb-true c mine here, eqb-true d mine there)
          by true head true here e there = omega (arith, eqb-true n mine head, eqb-true c mine here, first.number)
          by true head b here true there = omega (arith, eqb-true n mine head, eqb-true d mine there, second.number)
          by true head false here false there = same c d o p (eqb-false c mine here) (eqb-false d mine there) (behind n q os c o first) (behind n q os d p second)
          by false head false here e there =
              omega (arith, same c n o q (eqb-false c mine here) (eqb-false n mine head) (behind n q os c o first) (at_head n q os passes), first.number)
          by false head true here false there =
              omega (arith, same d n p q (eqb-false d mine there) (eqb-false n mine head) (behind n q os d p second) (at_head n q os passes), second.number)

      at : (b : Bool) → test n q ≡ b → length (items_from (n + 1) os) ≤ most + most
          → length (flat_map f (if b then (n, q) ∷ made_from (n + 1) test (λ c o. (c, o)) os else made_from (n + 1) test (λ c o. (c, o)) os)) ≤ most + most
      at true passes rest =
          omega (
            arith,
            few n q (at_head n q os passes),
            one_few most (n + 1) os (λ c o is. few c o (behind n q os c o is)) (alike passes),
            length-append (f (n, q)) (items_from (n + 1) os),
          )
      at false fails rest = rest

  -- where one call says words of the transfer and each other one tells ends of older sessions, they are mixed
  module _ (k : Setup) (x : Places) where
    others_mixed : (n : ℕ) (os : List Opening) → ((c : ℕ) (o : Opening) → IsIn n os c o → IsMix k x (f (c, o)) []) → IsMix k x (items_from n os) []
    others_mixed n [] mixes = no_mix k x
    others_mixed n (p ∷ os) mixes = at (test n p) refl (others_mixed (n + 1) os (λ c o is. mixes c o (behind n p os c o is)))
      where
        at : (b : Bool) → test n p ≡ b → IsMix k x (items_from (n + 1) os) []
            → IsMix k x (flat_map f (if b then (n, p) ∷ made_from (n + 1) test (λ c o. (c, o)) os else made_from (n + 1) test (λ c o. (c, o)) os)) []
        at true passes rest = both_mixed k x (f (n, p)) (items_from (n + 1) os) [] [] (mixes n p (at_head n p os passes)) rest
        at false fails rest = rest

    pub all_mixed : (words : List Word) (n : ℕ) (os : List Opening) (c : ℕ) (mine : Opening) → IsIn n os c mine → IsMix k x (f (c, mine)) words
        → ((d : ℕ) (o : Opening) → d ≢ c → IsIn n os d o → IsMix k x (f (d, o)) []) → IsMix k x (items_from n os) words
    all_mixed words n [] c mine is speaks mixes = (let none : slice_get [] is.place ≡ Some mine = is.there in absurd cc)
    all_mixed words n (p ∷ os) c mine is speaks mixes =
        by_place
        (λ j there number.
        all_mixed words (n + 1) os c mine (record { place = j; there = there; number = omega (arith, number); passes = is.passes }) speaks
        (λ d o apart in_rest. mixes d o apart (behind n p os d o in_rest)))
        is.place is.there is.number
      where
        first : c ≡ n → p ≡ mine → IsMix k x (items_from n (p ∷ os)) words
        first here it =
            at (test n p) refl
          where
            passes : test n p ≡ true
            passes = ap (λ o. test n o) it ∙ (ap (λ m. test m mine) (sym here) ∙ is.passes)

            at : (b : Bool) → test n p ≡ b → IsMix k x (flat_map f (if b then (n, p) ∷ made_from (n + 1) test (λ c o. (c, o)) os else made_from (n + 1) test (λ c o. (c, o)) os)) words
            at true same =
                subst (IsMix k x (f (n, p) ++ items_from (n + 1) os)) (append-nil words)
                (both_mixed k x (f (n, p)) (items_from (n + 1) os) words []
                (subst (λ o. IsMix k x (f (n, o)) words) (sym it) (subst (λ m. IsMix k x (f (m, mine)) words) here speaks))
                (others_mixed (n + 1) os (λ d o in_rest. mixes d o (λ same. omega (arith, same, here, in_rest.number)) (behind n p os d o in_rest))))
            at false fails = (let e : true ≡ false = sym passes ∙ fails in absurd (cc e))

        later : (j : ℕ) → c ≡ n + suc j → IsMix k x (items_from (n + 1) os) words → IsMix k x (items_from n (p ∷ os)) words
        later j number mixed = at (test n p) refl mixed
          where
            at : (b : Bool) → test n p ≡ b → IsMix k x (items_from (n + 1) os) words
                → IsMix k x (flat_map f (if b then (n, p) ∷ made_from (n + 1) test (λ c o. (c, o)) os else made_from (n + 1) test (λ c o. (c, o)) os)) words
            at true passes rest = both_mixed k x (f (n, p)) (items_from (n + 1) os) [] words (mixes n p (λ same. omega (arith, same, number)) (at_head n p os passes)) rest
            at false fails rest = rest

        by_place : ((j : ℕ) → slice_get os j ≡ Some mine → c ≡ n + suc j → IsMix k x (items_from (n + 1) os) words)
            → (i : ℕ) → slice_get (p ∷ os) i ≡ Some mine → c ≡ n + i → IsMix k x (items_from n (p ∷ os)) words
        by_place rest zero there number = first (omega (arith, number)) cc
        by_place rest (suc j) there number = later j number (rest j there number)
