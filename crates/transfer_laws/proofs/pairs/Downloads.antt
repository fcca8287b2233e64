-- A read comes to its end.
use Rattle.std.proofs.Common.{◌≡◌, ℕ, zero, suc, ◌+◌, ◌-◌, ◌*◌, ◌<◌, ◌≤◌, ◌==◌, ◌||◌, nat_lt, min, Bool, true, false, if◌then◌else◌, List, [], ◌∷◌, ◌++◌, length, Option, Some, None, Ok, Err, refl, sym, ap, ◌∙◌, subst, arith}
use Rattle.std.proofs.lemmas.Bool.Decides.{nat_tests}
use Rattle.rpc_ids.specs.declared.Status.TheVariants.{Okay, OutOfRange}
use Rattle.link_io.specs.Resources.{first_of}
use Rattle.transfer_base.specs.declared.limits.TheConstants.{MAX_CHUNK, MAX_RESOURCE, MAX_WINDOW}
use Rattle.transfer_sender.specs.Answer.{Answer}
use Rattle.transfer_receiver.specs.Receiver.{Receiver, new_receiver, first_ask}
use Rattle.transfer_receiver.specs.PieceRules.{PieceOutcome, ending, keeping, active_at}
use Rattle.transfer_words.specs.Word.{Word, start, start_ack, confirmation, data_comes, completion, completion_ack}
use Rattle.transfer_words.specs.Saying.{says, begins}
use Rattle.transfer_words.specs.CoreAnswers.{of_answer, of_piece, said_pieces}
use Rattle.transfer_resume.specs.declared.side.Side.TheVariants.{Read}
use Rattle.transfer_resume.specs.declared.stage.Stage.{Stage}
use Rattle.transfer_resume.specs.declared.stage.Stage.TheVariants as stage
use Rattle.transfer_resume.specs.Session.{Service, stepped}
use Rattle.transfer_resume.specs.Opening as opening
use Rattle.transfer_resume.specs.Hears.{session_hears}
use Rattle.transfer_resume.specs.Sender.{sending_or_ended}
use Rattle.transfer_client.specs.declared.stages.Reading.TheVariants as reading
use Rattle.transfer_client.specs.Wait.{new_wait}
use Rattle.transfer_client.specs.Machine.{saying}
use Rattle.transfer_client.specs.Read.{Download, at_stage, new_download, read_rules, receives}
use Rattle.transfer_laws.proofs.cores.AskLaws.{fits, not_less}
use Rattle.transfer_laws.specs.pairs.Pair.{EndsWell, Pair, first}
use Rattle.transfer_laws.specs.pairs.Bound.{bound_for, need}
use Rattle.transfer_laws.specs.pairs.EndsWell.{ReadsEndWell}
use Rattle.transfer_laws.proofs.pairs.Grid.{Grid, grid}
use Rattle.transfer_laws.proofs.pairs.Parts.{data_from, data_joins, length-data, part, parts_from, said_parts}
use Rattle.transfer_laws.proofs.pairs.Sending.{answered, first_answered, sender_at}
use Rattle.transfer_laws.proofs.pairs.Receiving.{end_words, first_receives, keeps_last, keeps_on}
use Rattle.transfer_laws.proofs.pairs.Turns.{client_goes, goes, server_goes}
use Rattle.transfer_laws.proofs.pairs.Flowing.{Flows, few_pieces, few_said, flows_answered, flows_kept, some_piece, told_count, told_few}

module _ (k : Service) (now resource window : ℕ) (bytes : List ℕ) (o c big : ℕ) (some : 1 ≤ c) (small : c ≤ MAX_CHUNK) (size : length bytes ≤ MAX_RESOURCE) (g : Grid (length bytes) o c big) where
  -- a client that receives
  abbrev pub reading_at : Receiver → Download
  reading_at r = record { resource = resource; asked = o; window = window; chunk = c; agreed = Some o; stage = reading.Receiving r }

  abbrev over : Download
  over = record { resource = resource; asked = o; window = window; chunk = c; agreed = Some o; stage = reading.Over Okay }

  abbrev sending_at : ℕ → ℕ → ℕ → Option Stage
  sending_at j active timeouts = Some (stage.Sending (sender_at bytes o c big some small g j active timeouts))

  abbrev pub reads_at : Receiver → ℕ → ℕ → ℕ → List Word → List Word → ℕ → Pair Download
  reads_at r j active timeouts ups downs n = record { server = sending_at j active timeouts; client = reading_at r; to_server = ups; to_client = downs; said = n }

  abbrev Ends : Pair Download → Type 0
  Ends w = EndsWell k read_rules now w over (bound_for big)

  abbrev Flow : Receiver → List Word → ℕ → ℕ → ℕ → ℕ → ℕ → ℕ → Type 0
  Flow = Flows bytes o c big some small size g

  -- in so many steps at most
  abbrev ReadsFrom : ℕ → Type 0
  ReadsFrom f =
      (r : Receiver) (asks : List Word) (i d j m e q active timeouts n : ℕ) → Flow r asks i d j m e q → 2 * (big - i) + length asks ≤ f → n ≡ 3 + j + q
      → Ends (reads_at r j active timeouts asks (data_from bytes o c i d) n)

  by_ask : (f : ℕ) → ReadsFrom f → (r : Receiver) (a : Word) (rest : List Word) (i d j m e q active timeouts n : ℕ) → Flow r (a ∷ rest) i d j m e q →
      2 * (big - i) + length (a ∷ rest) ≤ suc f → n ≡ 3 + j + q → Ends (reads_at r j active timeouts (a ∷ rest) (data_from bytes o c i d) n)
  by_ask f more r a rest i d j m e q active timeouts n x fuel said =
      let mid = x.asked.0 in
      let at = x.asked.1.0 in
      let rises = x.asked.1.1.0 in
      let t = min mid big in
      let cnt = t - j in
      let total : t ≡ j + cnt = (let s = x.sent in omega (arith, s, rises)) in
      let long : length (data_from bytes o c j cnt) ≡ cnt = length-data bytes o c j cnt in
      let next = flows_answered bytes o c big some small size g r a rest i d j m e q mid cnt t x rises x.asked.1.1.1.1 refl total in
      let answer = answered bytes o c big some small g mid cnt j t at active timeouts k.time total refl (few_pieces bytes o c big some small size g r rest (a ∷ rest) i d j m e q mid x x.asked.1.1.1.1) x.first in
      let hears : session_hears k true (sending_at j active timeouts) a ≡ record { after = sending_at t k.time 0; sayings = said_pieces (parts_from bytes o c j cnt) }
      = ap (λ w. session_hears k true (sending_at j active timeouts) w) x.asked.1.1.1.0
      ∙ ap (λ (z : Answer). stepped (record { after = sending_or_ended z.after z.after.ended; sayings = of_answer z })) answer in
      goes k read_rules now (reads_at r j active timeouts (a ∷ rest) (data_from bytes o c i d) n)
      (reads_at r t k.time 0 rest (data_from bytes o c i d ++ data_from bytes o c j cnt) (n + length (data_from bytes o c j cnt))) over (bound_for big) refl
      (server_goes k read_rules now (sending_at j active timeouts) (sending_at t k.time 0) (reading_at r) a rest (data_from bytes o c i d) (data_from bytes o c j cnt) (said_pieces (parts_from bytes o c j cnt)) n hears (said_parts bytes o c j cnt))
      (subst (λ downs. Ends (reads_at r t k.time 0 rest downs (n + length (data_from bytes o c j cnt)))) (sym (data_joins bytes o c i d j cnt (d + cnt) x.ends refl))
      (more r rest i (d + cnt) t mid e q k.time 0 (n + length (data_from bytes o c j cnt)) next (omega (arith, fuel)) (omega (arith, said, long, total))))

  -- a piece that isn't the last
  in_middle : (f : ℕ) → ReadsFrom f → (r : Receiver) (i d j m e q active timeouts n : ℕ) → Flow r [] i (suc d) j m e q →
      2 * (big - i) ≤ suc f → n ≡ 3 + j + q → suc i < big → Ends (reads_at r j active timeouts [] (data_from bytes o c i (suc d)) n)
  in_middle f more r i d j m e q active timeouts n x fuel said less =
      let kept = keeps_on bytes o c big some small size g now r i e q x.receives less in
      let p = part bytes o c i in
      let hears : read_rules.hears (reading_at r) (data_comes p) now ≡ record { after = reading_at kept.after; sayings = of_piece p.bytes kept.answer }
      = ap (λ (z : PieceOutcome). record { after = reading_at z.after; sayings = of_piece p.bytes z.answer }) kept.is in
      let count = told_count bytes o c big some small size g e q kept.end kept.asked kept.asks kept.told in
      let few = told_few bytes o c big some small size g e q kept.end kept.asked kept.asks kept.told in
      goes k read_rules now (reads_at r j active timeouts [] (data_from bytes o c i (suc d)) n)
      (reads_at kept.after j active timeouts kept.asks (data_from bytes o c (suc i) d) (n + length kept.asks)) over (bound_for big) refl
      (client_goes k read_rules now (sending_at j active timeouts) (reading_at r) (reading_at kept.after) (data_comes p) (data_from bytes o c (suc i) d) kept.asks (of_piece p.bytes kept.answer) n hears (kept.words p.bytes))
      (more kept.after kept.asks (suc i) d j m kept.end kept.asked active timeouts (n + length kept.asks) (flows_kept bytes o c big some small size g now r [] i d j m e q x less kept) (omega (arith, fuel, few, less)) (omega (arith, said, count)))

  -- the last one
  at_last : (r : Receiver) (i d j m e q active timeouts n : ℕ) → Flow r [] i (suc d) j m e q → n ≡ 3 + j + q → suc i ≡ big →
      Ends (reads_at r j active timeouts [] (data_from bytes o c i (suc d)) n)
  at_last r i zero j m e q active timeouts n x said last =
      let p = part bytes o c i in
      let done = ending (keeping (active_at now r) (r.next + min c (length bytes - (o + i * c)))) Okay in
      let hears : read_rules.hears (reading_at r) (data_comes p) now ≡ record { after = reading_at done.after; sayings = of_piece p.bytes done.answer }
      = ap (λ (z : PieceOutcome). record { after = reading_at z.after; sayings = of_piece p.bytes z.answer }) (keeps_last bytes o c big some small size g now r i e q x.receives last) in
      goes k read_rules now (reads_at r j active timeouts [] (data_comes p ∷ []) n)
      (reads_at done.after j active timeouts (completion Okay ∷ []) [] (n + 1)) over (bound_for big) refl
      (client_goes k read_rules now (sending_at j active timeouts) (reading_at r) (reading_at done.after) (data_comes p) [] (completion Okay ∷ []) (of_piece p.bytes done.answer) n hears (end_words (length p.bytes == 0) p.bytes))
      (goes k read_rules now (reads_at done.after j active timeouts (completion Okay ∷ []) [] (n + 1))
      (record { server = Some (stage.Ended Okay); client = reading_at done.after; to_server = []; to_client = completion_ack ∷ []; said = n + 1 + 1 }) over (bound_for big) refl
      (server_goes k read_rules now (sending_at j active timeouts) (Some (stage.Ended Okay)) (reading_at done.after) (completion Okay) [] [] (completion_ack ∷ []) (says completion_ack ∷ []) (n + 1) refl refl)
      (goes k read_rules now (record { server = Some (stage.Ended Okay); client = reading_at done.after; to_server = []; to_client = completion_ack ∷ []; said = n + 1 + 1 })
      (record { server = Some (stage.Ended Okay); client = over; to_server = []; to_client = []; said = n + 1 + 1 + 0 }) over (bound_for big) refl
      (client_goes k read_rules now (Some (stage.Ended Okay)) (reading_at done.after) over completion_ack [] [] [] (n + 1 + 1) refl refl)
      (record {
        turns = 0;
        last = record { server = Some (stage.Ended Okay); client = over; to_server = []; to_client = []; said = n + 1 + 1 + 0 };
        way = refl;
        client = refl;
        to_client = refl;
        server = refl;
        few = few_said bytes o c big some small size g r [] i 1 j m e q (n + 1 + 1 + 0) x last (omega (arith, said));
      })))
  at_last r i (suc d) j m e q active timeouts n x said last = absurd (let s = x.sent in let ends = x.ends in omega (arith, s, ends, last))

  by_piece : (f : ℕ) → ReadsFrom f → (r : Receiver) (i d j m e q active timeouts n : ℕ) → Flow r [] i d j m e q →
      2 * (big - i) ≤ suc f → n ≡ 3 + j + q → Ends (reads_at r j active timeouts [] (data_from bytes o c i d) n)
  by_piece f more r i zero j m e q active timeouts n x fuel said = absurd (omega (arith, some_piece bytes o c big some small size g r i 0 j m e q x))
  by_piece f more r i (suc d) j m e q active timeouts n x fuel said = by_test (nat_lt (suc i) big) refl
    where
      by_test : (b : Bool) → nat_lt (suc i) big ≡ b → Ends (reads_at r j active timeouts [] (data_from bytes o c i (suc d)) n)
      by_test true t = let less : suc i < big = grind (arith, nat_tests) in in_middle f more r i d j m e q active timeouts n x fuel said less
      by_test false t =
          let most : big ≤ suc i = grind (arith, nat_tests) in
          at_last r i d j m e q active timeouts n x said (let h = x.more in omega (arith, most, h))

  pub reads_on : (f : ℕ) → ReadsFrom f
  reads_on zero r asks i d j m e q active timeouts n x fuel said = absurd (let h = x.more in omega (arith, h, fuel))
  reads_on (suc f) r [] i d j m e q active timeouts n x fuel said = by_piece f (reads_on f) r i d j m e q active timeouts n x (omega (arith, fuel)) said
  reads_on (suc f) r (a ∷ rest) i d j m e q active timeouts n x fuel said = by_ask f (reads_on f) r a rest i d j m e q active timeouts n x fuel said

  -- a client that has asked
  abbrev asking : Download
  asking = record { resource = resource; asked = o; window = window; chunk = c; agreed = None; stage = reading.Asking (new_wait now) }

  abbrev opened_at : Option Stage
  opened_at = Some (stage.Opening (opening.new_opening resource o k.time))

  pub reads_begin : k.side ≡ Read → first_of resource k.shelf.full ≡ Some bytes → 1 ≤ window → window ≤ MAX_WINDOW →
      Ends (first k read_rules now (new_download resource o window c))
  reads_begin side there low high =
      let r : Receiver = new_receiver o window c now in
      let ask = first_ask r in
      let cnt = min window big in
      let tests : (nat_lt MAX_RESOURCE (length bytes) || nat_lt (length bytes) o) ≡ false = rw (fits (length bytes) MAX_RESOURCE size, fits o (length bytes) g.within) refl in
      let offer : opening.offer_of k.shelf resource o ≡ Ok bytes = ap (λ z. opening.offered z o) there ∙ ap (λ (b : Bool). if b then Err OutOfRange else Ok bytes) tests in
      let opens : session_hears k true None (start resource o) ≡ record { after = opened_at; sayings = says (start_ack o) ∷ [] }
      = ap (λ s. stepped (opening.opened s k resource o)) side ∙ ap (λ z. stepped (opening.opened_read k.time resource o z)) offer in
      let agreed : read_rules.hears asking (start_ack o) now ≡ record { after = reading_at r; sayings = begins resource o ∷ says (confirmation ask) ∷ [] }
      = ap (λ (b : Bool). if b then saying (at_stage asking (reading.Over OutOfRange)) (says (completion OutOfRange)) else receives asking o r) (not_less o) in
      let answer = first_answered bytes o c big some small g window cnt k.time refl low (omega (arith, high)) in
      let confirmed : session_hears k true opened_at (confirmation ask) ≡ record { after = sending_at cnt k.time 0; sayings = said_pieces (parts_from bytes o c 0 cnt) }
      = ap (λ s. stepped (opening.confirmed s k (opening.new_opening resource o k.time) ask)) side
      ∙ (ap (λ z. stepped (opening.reading k.time o ask z)) offer
      ∙ ap (λ (z : Answer). stepped (record { after = sending_or_ended z.after z.after.ended; sayings = of_answer z })) answer) in
      let long : length (data_from bytes o c 0 cnt) ≡ cnt = length-data bytes o c 0 cnt in
      let flows : Flow r [] 0 cnt cnt window window 0 = record {
        receives = first_receives bytes o c big some small size g window now low high;
        asked = refl;
        more = (let b = g.some in omega (arith, b));
        ends = omega arith;
        sent = refl;
        first = (let b = g.some in omega (arith, b, low));
      } in
      goes k read_rules now (record { server = None; client = asking; to_server = start resource o ∷ []; to_client = []; said = 1 })
      (record { server = opened_at; client = asking; to_server = []; to_client = start_ack o ∷ []; said = 2 }) over (bound_for big) refl
      (server_goes k read_rules now None opened_at asking (start resource o) [] [] (start_ack o ∷ []) (says (start_ack o) ∷ []) 1 opens refl)
      (goes k read_rules now (record { server = opened_at; client = asking; to_server = []; to_client = start_ack o ∷ []; said = 2 })
      (record { server = opened_at; client = reading_at r; to_server = confirmation ask ∷ []; to_client = []; said = 3 }) over (bound_for big) refl
      (client_goes k read_rules now opened_at asking (reading_at r) (start_ack o) [] (confirmation ask ∷ []) (begins resource o ∷ says (confirmation ask) ∷ []) 2 agreed refl)
      (goes k read_rules now (record { server = opened_at; client = reading_at r; to_server = confirmation ask ∷ []; to_client = []; said = 3 })
      (reads_at r cnt k.time 0 [] (data_from bytes o c 0 cnt) (3 + length (data_from bytes o c 0 cnt))) over (bound_for big) refl
      (server_goes k read_rules now opened_at (sending_at cnt k.time 0) (reading_at r) (confirmation ask) [] [] (data_from bytes o c 0 cnt) (said_pieces (parts_from bytes o c 0 cnt)) 3 confirmed (said_parts bytes o c 0 cnt))
      (reads_on (2 * (big - 0) + 0) r [] 0 cnt cnt window window 0 k.time 0 (3 + length (data_from bytes o c 0 cnt)) flows (omega arith) (omega (arith, long)))))

pub reads_end_well : ReadsEndWell
reads_end_well k now resource o window c bytes side there tuning size within =
    reads_begin k now resource window bytes o c (need (length bytes) o c) tuning.chunk_low tuning.chunk_high size (grid (length bytes) o c tuning.chunk_low within)
    side there tuning.window_low tuning.window_high
