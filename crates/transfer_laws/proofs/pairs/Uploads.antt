-- A write comes to its end.
use Rattle.std.proofs.Common.{◌≡◌, ℕ, zero, suc, ◌+◌, ◌-◌, ◌*◌, ◌<◌, ◌≤◌, ◌==◌, nat_lt, min, Bool, true, false, if◌then◌else◌, List, [], ◌∷◌, ◌++◌, length, Option, Some, None, refl, sym, ap, ◌∙◌, subst, arith}
use Rattle.std.proofs.lemmas.Bool.Decides.{nat_tests}
use Rattle.std.proofs.lemmas.List.{length-append}
use Rattle.rpc_ids.specs.declared.Status.TheVariants.{Okay, OutOfRange}
use Rattle.transfer_base.specs.declared.limits.TheConstants.{MAX_CHUNK, MAX_RESOURCE, MAX_WINDOW}
use Rattle.transfer_sender.specs.Answer.{Answer}
use Rattle.transfer_receiver.specs.declared.phase.Phase.TheVariants.{Completing}
use Rattle.transfer_receiver.specs.Receiver.{Receiver, new_receiver, first_ask}
use Rattle.transfer_receiver.specs.PieceRules.{PieceOutcome, ending, keeping, active_at}
use Rattle.transfer_words.specs.Word.{Word, start, start_ack, confirmation, parameters, data_comes, completion, completion_ack}
use Rattle.transfer_words.specs.Saying.{says, begins}
use Rattle.transfer_words.specs.CoreAnswers.{of_piece, said_pieces}
use Rattle.transfer_resume.specs.declared.side.Side.TheVariants.{Write}
use Rattle.transfer_resume.specs.declared.stage.Stage.{Stage}
use Rattle.transfer_resume.specs.declared.stage.Stage.TheVariants as stage
use Rattle.transfer_resume.specs.Session.{Service, stepped}
use Rattle.transfer_resume.specs.Opening as opening
use Rattle.transfer_resume.specs.Hears.{session_hears}
use Rattle.transfer_resume.specs.Receiver as service
use Rattle.transfer_client.specs.declared.stages.Writing.TheVariants as writing
use Rattle.transfer_client.specs.Wait.{new_wait}
use Rattle.transfer_client.specs.Machine.{saying}
use Rattle.transfer_client.specs.Write.{Upload, answers, at_stage, confirms, new_upload, no_ask, write_rules}
use Rattle.transfer_laws.proofs.cores.AskLaws.{fits}
use Rattle.transfer_laws.specs.pairs.Pair.{EndsWell, Pair, first}
use Rattle.transfer_laws.specs.pairs.Bound.{bound_for, need}
use Rattle.transfer_laws.specs.pairs.EndsWell.{WritesEndWell}
use Rattle.transfer_laws.proofs.pairs.Grid.{Grid, grid}
use Rattle.transfer_laws.proofs.pairs.Parts.{data_from, data_joins, length-data, part, parts_from, said_parts}
use Rattle.transfer_laws.proofs.pairs.Sending.{answered, first_answered, sender_at}
use Rattle.transfer_laws.proofs.pairs.Receiving.{end_words, first_receives, keeps_last, keeps_on}
use Rattle.transfer_laws.proofs.pairs.Turns.{client_goes, goes, server_goes}
use Rattle.transfer_laws.proofs.pairs.Flowing.{AsksUp, Flows, few_pieces, few_said, flows_answered, flows_kept, some_piece, told_count, told_few}

module _ (k : Service) (now resource asked : ℕ) (bytes : List ℕ) (o c big : ℕ) (some : 1 ≤ c) (small : c ≤ MAX_CHUNK) (size : length bytes ≤ MAX_RESOURCE) (g : Grid (length bytes) o c big) where
  -- a client that sends
  abbrev pub writing_at : ℕ → ℕ → ℕ → Upload
  writing_at j active timeouts =
      record { resource = resource; bytes = bytes; asked = asked; agreed = Some o; stage = writing.Sending (sender_at bytes o c big some small g j active timeouts) }

  abbrev over : Upload
  over = record { resource = resource; bytes = bytes; asked = asked; agreed = Some o; stage = writing.Over Okay }

  abbrev receiving_at : Receiver → Option Stage
  receiving_at r = Some (stage.Receiving r)

  abbrev pub writes_at : Receiver → ℕ → ℕ → ℕ → List Word → List Word → ℕ → Pair Upload
  writes_at r j active timeouts ups downs n = record { server = receiving_at r; client = writing_at j active timeouts; to_server = ups; to_client = downs; said = n }

  abbrev Ends : Pair Upload → Type 0
  Ends w = EndsWell k write_rules now w over (bound_for big)

  abbrev Flow : Receiver → List Word → ℕ → ℕ → ℕ → ℕ → ℕ → ℕ → Type 0
  Flow = Flows bytes o c big some small size g

  -- in so many steps at most
  abbrev WritesFrom : ℕ → Type 0
  WritesFrom f =
      (r : Receiver) (asks : List Word) (i d j m e q active timeouts n : ℕ) → Flow r asks i d j m e q → 2 * (big - i) + length asks ≤ f → n ≡ 4 + j + q
      → Ends (writes_at r j active timeouts (data_from bytes o c i d) asks n)

  -- the client answers the oldest ask
  by_ask : (f : ℕ) → WritesFrom f → (r : Receiver) (a : Word) (rest : List Word) (i j m e q active timeouts n : ℕ) → Flow r (a ∷ rest) i 0 j m e q →
      2 * (big - i) + length (a ∷ rest) ≤ suc f → n ≡ 4 + j + q → Ends (writes_at r j active timeouts [] (a ∷ rest) n)
  by_ask f more r a rest i j m e q active timeouts n x fuel said =
      let mid = x.asked.0 in
      let at = x.asked.1.0 in
      let rises = x.asked.1.1.0 in
      let t = min mid big in
      let cnt = t - j in
      let total : t ≡ j + cnt = (let s = x.sent in omega (arith, s, rises)) in
      let long : length (data_from bytes o c j cnt) ≡ cnt = length-data bytes o c j cnt in
      let next = flows_answered bytes o c big some small size g r a rest i 0 j m e q mid cnt t x rises x.asked.1.1.1.1 refl total in
      let answer = answered bytes o c big some small g mid cnt j t at active timeouts now total refl (few_pieces bytes o c big some small size g r rest (a ∷ rest) i 0 j m e q mid x x.asked.1.1.1.1) x.first in
      let hears : write_rules.hears (writing_at j active timeouts) a now ≡ record { after = writing_at t now 0; sayings = said_pieces (parts_from bytes o c j cnt) }
      = ap (λ w. write_rules.hears (writing_at j active timeouts) w now) x.asked.1.1.1.0 ∙ ap (λ (z : Answer). answers (writing_at j active timeouts) z) answer in
      goes k write_rules now (writes_at r j active timeouts [] (a ∷ rest) n)
      (writes_at r t now 0 (data_from bytes o c j cnt) rest (n + length (data_from bytes o c j cnt))) over (bound_for big) refl
      (client_goes k write_rules now (receiving_at r) (writing_at j active timeouts) (writing_at t now 0) a rest (data_from bytes o c j cnt) (said_pieces (parts_from bytes o c j cnt)) n hears (said_parts bytes o c j cnt))
      (subst (λ ups. Ends (writes_at r t now 0 ups rest (n + length (data_from bytes o c j cnt)))) (sym (data_joins bytes o c i 0 j cnt (0 + cnt) x.ends refl))
      (more r rest i (0 + cnt) t mid e q now 0 (n + length (data_from bytes o c j cnt)) next (omega (arith, fuel)) (omega (arith, said, long, total))))

  -- the service keeps a piece that isn't the last
  in_middle : (f : ℕ) → WritesFrom f → (r : Receiver) (asks : List Word) (i d j m e q active timeouts n : ℕ) → Flow r asks i (suc d) j m e q →
      2 * (big - i) + length asks ≤ suc f → n ≡ 4 + j + q → suc i < big → Ends (writes_at r j active timeouts (data_from bytes o c i (suc d)) asks n)
  in_middle f more r asks i d j m e q active timeouts n x fuel said less =
      let kept = keeps_on bytes o c big some small size g k.time r i e q x.receives less in
      let p = part bytes o c i in
      let hears : session_hears k true (receiving_at r) (data_comes p) ≡ record { after = receiving_at kept.after; sayings = of_piece p.bytes kept.answer }
      = ap (λ (z : PieceOutcome). stepped (service.piece_step p z)) kept.is in
      let count = told_count bytes o c big some small size g e q kept.end kept.asked kept.asks kept.told in
      let few = told_few bytes o c big some small size g e q kept.end kept.asked kept.asks kept.told in
      let long : length (asks ++ kept.asks) ≡ length asks + length kept.asks = length-append asks kept.asks in
      goes k write_rules now (writes_at r j active timeouts (data_from bytes o c i (suc d)) asks n)
      (writes_at kept.after j active timeouts (data_from bytes o c (suc i) d) (asks ++ kept.asks) (n + length kept.asks)) over (bound_for big) refl
      (server_goes k write_rules now (receiving_at r) (receiving_at kept.after) (writing_at j active timeouts) (data_comes p) (data_from bytes o c (suc i) d) asks kept.asks (of_piece p.bytes kept.answer) n hears (kept.words p.bytes))
      (more kept.after (asks ++ kept.asks) (suc i) d j m kept.end kept.asked active timeouts (n + length kept.asks) (flows_kept bytes o c big some small size g k.time r asks i d j m e q x less kept) (omega (arith, fuel, few, less, long)) (omega (arith, said, count)))

  abbrev told_okay : Receiver → Receiver
  told_okay r = record r { phase = Completing Okay; resends = 0 }

  -- all pieces are kept: the client has nothing to send for what is still asked, and hears of the end
  closes : (r : Receiver) (asks : List Word) (m e active timeouts n : ℕ) → AsksUp bytes o c big some small size g m asks e → big ≤ m → n + 1 ≤ bound_for big →
      Ends (writes_at (told_okay r) big active timeouts [] (asks ++ completion Okay ∷ []) n)
  closes r [] m e active timeouts n up all few =
      goes k write_rules now (writes_at (told_okay r) big active timeouts [] (completion Okay ∷ []) n)
      (record { server = receiving_at (told_okay r); client = over; to_server = completion_ack ∷ []; to_client = []; said = n + 1 }) over (bound_for big) refl
      (client_goes k write_rules now (receiving_at (told_okay r)) (writing_at big active timeouts) over (completion Okay) [] (completion_ack ∷ []) (says completion_ack ∷ []) n refl refl)
      (record {
        turns = 0;
        last = record { server = receiving_at (told_okay r); client = over; to_server = completion_ack ∷ []; to_client = []; said = n + 1 };
        way = refl;
        client = refl;
        to_client = refl;
        server = (refl, refl);
        few = few;
      })
  closes r (a ∷ rest) m e active timeouts n up all few =
      let mid = up.0 in
      let rises = up.1.1.0 in
      let none : big ≡ min mid big = omega (arith, rises, all) in
      let answer = answered bytes o c big some small g mid 0 big big up.1.0 active timeouts now (omega arith) none (omega arith) g.some in
      let hears : write_rules.hears (writing_at big active timeouts) a now ≡ record { after = writing_at big now 0; sayings = [] }
      = ap (λ w. write_rules.hears (writing_at big active timeouts) w now) up.1.1.1.0 ∙ ap (λ (z : Answer). answers (writing_at big active timeouts) z) answer in
      goes k write_rules now (writes_at (told_okay r) big active timeouts [] (a ∷ (rest ++ completion Okay ∷ [])) n)
      (writes_at (told_okay r) big now 0 [] (rest ++ completion Okay ∷ []) (n + 0)) over (bound_for big) refl
      (client_goes k write_rules now (receiving_at (told_okay r)) (writing_at big active timeouts) (writing_at big now 0) a (rest ++ completion Okay ∷ []) [] [] n hears refl)
      (closes r rest mid e now 0 (n + 0) up.1.1.1.1 (omega (arith, rises, all)) (omega (arith, few)))

  -- the last piece
  at_last : (r : Receiver) (asks : List Word) (i d j m e q active timeouts n : ℕ) → Flow r asks i (suc d) j m e q → n ≡ 4 + j + q → suc i ≡ big →
      Ends (writes_at r j active timeouts (data_from bytes o c i (suc d)) asks n)
  at_last r asks i zero j m e q active timeouts n x said last =
      let p = part bytes o c i in
      let kept = keeping (active_at k.time r) (r.next + min c (length bytes - (o + i * c))) in
      let done = ending kept Okay in
      let hears : session_hears k true (receiving_at r) (data_comes p) ≡ record { after = receiving_at done.after; sayings = of_piece p.bytes done.answer }
      = ap (λ (z : PieceOutcome). stepped (service.piece_step p z)) (keeps_last bytes o c big some small size g k.time r i e q x.receives last) in
      let all : j ≡ big = (let ends = x.ends in omega (arith, ends, last)) in
      let high : big ≤ m = (let s = x.sent in omega (arith, s, all)) in
      goes k write_rules now (writes_at r j active timeouts (data_comes p ∷ []) asks n)
      (writes_at done.after j active timeouts [] (asks ++ completion Okay ∷ []) (n + 1)) over (bound_for big) refl
      (server_goes k write_rules now (receiving_at r) (receiving_at done.after) (writing_at j active timeouts) (data_comes p) [] asks (completion Okay ∷ []) (of_piece p.bytes done.answer) n hears (end_words (length p.bytes == 0) p.bytes))
      (subst (λ l. Ends (writes_at done.after l active timeouts [] (asks ++ completion Okay ∷ []) (n + 1))) (sym all)
      (closes kept asks m e active timeouts (n + 1) x.asked high (few_said bytes o c big some small size g r asks i 1 j m e q (n + 1 + 1) x last (omega (arith, said)))))
  at_last r asks i (suc d) j m e q active timeouts n x said last = absurd (let s = x.sent in let ends = x.ends in omega (arith, s, ends, last))

  by_piece : (f : ℕ) → WritesFrom f → (r : Receiver) (asks : List Word) (i d j m e q active timeouts n : ℕ) → Flow r asks i (suc d) j m e q →
      2 * (big - i) + length asks ≤ suc f → n ≡ 4 + j + q → Ends (writes_at r j active timeouts (data_from bytes o c i (suc d)) asks n)
  by_piece f more r asks i d j m e q active timeouts n x fuel said = by_test (nat_lt (suc i) big) refl
    where
      by_test : (b : Bool) → nat_lt (suc i) big ≡ b → Ends (writes_at r j active timeouts (data_from bytes o c i (suc d)) asks n)
      by_test true t = let less : suc i < big = grind (arith, nat_tests) in in_middle f more r asks i d j m e q active timeouts n x fuel said less
      by_test false t =
          let most : big ≤ suc i = grind (arith, nat_tests) in
          at_last r asks i d j m e q active timeouts n x said (let h = x.more in omega (arith, most, h))

  writes_on : (f : ℕ) → WritesFrom f
  writes_on zero r asks i d j m e q active timeouts n x fuel said = absurd (let h = x.more in omega (arith, h, fuel))
  writes_on (suc f) r [] i zero j m e q active timeouts n x fuel said = absurd (omega (arith, some_piece bytes o c big some small size g r i 0 j m e q x))
  writes_on (suc f) r (a ∷ rest) i zero j m e q active timeouts n x fuel said = by_ask f (writes_on f) r a rest i j m e q active timeouts n x fuel said
  writes_on (suc f) r asks i (suc d) j m e q active timeouts n x fuel said = by_piece f (writes_on f) r asks i d j m e q active timeouts n x fuel said

  -- a client that has asked, and one that has confirmed
  abbrev asking : Upload
  asking = record { resource = resource; bytes = bytes; asked = asked; agreed = None; stage = writing.Asking (new_wait now) }

  abbrev confirming : Upload
  confirming = record { resource = resource; bytes = bytes; asked = asked; agreed = Some o; stage = writing.Confirming (new_wait now) }

  abbrev opened_at : Option Stage
  opened_at = Some (stage.Opening (opening.new_opening resource o k.time))

  pub writes_begin : k.side ≡ Write → opening.agreed_offset k.shelf resource asked ≡ o → k.chunk ≡ c → o ≤ asked → 1 ≤ k.window → k.window ≤ MAX_WINDOW →
      Ends (first k write_rules now (new_upload resource bytes asked))
  writes_begin side from chunk within low high =
      let r : Receiver = new_receiver o k.window c k.time in
      let ask = first_ask r in
      let cnt = min k.window big in
      let opens : session_hears k true None (start resource asked) ≡ record { after = opened_at; sayings = begins resource o ∷ says (start_ack o) ∷ [] }
      = ap (λ s. stepped (opening.opened s k resource asked)) side ∙ ap (λ z. stepped (opening.opened_write k.time resource z)) from in
      let agreed : write_rules.hears asking (start_ack o) now ≡ record { after = confirming; sayings = says (confirmation no_ask) ∷ [] }
      = ap (λ (b : Bool). if b then saying (at_stage asking (writing.Over OutOfRange)) (says (completion OutOfRange)) else confirms (record asking { agreed = Some o }) (new_wait now)) (fits o asked within) in
      let confirmed : session_hears k true opened_at (confirmation no_ask) ≡ record { after = receiving_at r; sayings = says (parameters ask) ∷ [] }
      = ap (λ s. stepped (opening.confirmed s k (opening.new_opening resource o k.time) no_ask)) side
      ∙ ap (λ z. stepped (opening.writing (new_receiver o k.window z k.time))) chunk in
      let answer = first_answered bytes o c big some small g k.window cnt now refl low (omega (arith, high)) in
      let begun : write_rules.hears confirming (parameters ask) now ≡ record { after = writing_at cnt now 0; sayings = said_pieces (parts_from bytes o c 0 cnt) }
      = ap (λ (z : Answer). answers confirming z) answer in
      let long : length (data_from bytes o c 0 cnt) ≡ cnt = length-data bytes o c 0 cnt in
      let flows : Flow r [] 0 cnt cnt k.window k.window 0 = record {
        receives = first_receives bytes o c big some small size g k.window k.time low high;
        asked = refl;
        more = (let b = g.some in omega (arith, b));
        ends = omega arith;
        sent = refl;
        first = (let b = g.some in omega (arith, b, low));
      } in
      goes k write_rules now (record { server = None; client = asking; to_server = start resource asked ∷ []; to_client = []; said = 1 })
      (record { server = opened_at; client = asking; to_server = []; to_client = start_ack o ∷ []; said = 2 }) over (bound_for big) refl
      (server_goes k write_rules now None opened_at asking (start resource asked) [] [] (start_ack o ∷ []) (begins resource o ∷ says (start_ack o) ∷ []) 1 opens refl)
      (goes k write_rules now (record { server = opened_at; client = asking; to_server = []; to_client = start_ack o ∷ []; said = 2 })
      (record { server = opened_at; client = confirming; to_server = confirmation no_ask ∷ []; to_client = []; said = 3 }) over (bound_for big) refl
      (client_goes k write_rules now opened_at asking confirming (start_ack o) [] (confirmation no_ask ∷ []) (says (confirmation no_ask) ∷ []) 2 agreed refl)
      (goes k write_rules now (record { server = opened_at; client = confirming; to_server = confirmation no_ask ∷ []; to_client = []; said = 3 })
      (record { server = receiving_at r; client = confirming; to_server = []; to_client = parameters ask ∷ []; said = 4 }) over (bound_for big) refl
      (server_goes k write_rules now opened_at (receiving_at r) confirming (confirmation no_ask) [] [] (parameters ask ∷ []) (says (parameters ask) ∷ []) 3 confirmed refl)
      (goes k write_rules now (record { server = receiving_at r; client = confirming; to_server = []; to_client = parameters ask ∷ []; said = 4 })
      (writes_at r cnt now 0 (data_from bytes o c 0 cnt) [] (4 + length (data_from bytes o c 0 cnt))) over (bound_for big) refl
      (client_goes k write_rules now (receiving_at r) confirming (writing_at cnt now 0) (parameters ask) [] (data_from bytes o c 0 cnt) (said_pieces (parts_from bytes o c 0 cnt)) 4 begun (said_parts bytes o c 0 cnt))
      (writes_on (2 * (big - 0) + 0) r [] 0 cnt cnt k.window k.window 0 now 0 (4 + length (data_from bytes o c 0 cnt)) flows (omega arith) (omega (arith, long))))))

pub writes_end_well : WritesEndWell
writes_end_well k now resource asked bytes side tuning size within =
    let o = opening.agreed_offset k.shelf resource asked in
    let low : o ≤ asked = omega arith in
    writes_begin k now resource asked bytes o k.chunk (need (length bytes) o k.chunk) tuning.chunk_low tuning.chunk_high size (grid (length bytes) o k.chunk tuning.chunk_low (omega (arith, low, within)))
    side refl refl low tuning.window_low tuning.window_high
