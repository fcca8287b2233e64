-- A read of what the store can't offer.
use Rattle.std.proofs.Common.{◌≡◌, ◌+◌, true, [], ◌∷◌, Some, None, refl, ap, ◌∙◌, arith}
use Rattle.transfer_words.specs.Word.{start, completion, completion_ack}
use Rattle.transfer_words.specs.Saying.{says}
use Rattle.transfer_resume.specs.declared.stage.Stage.TheVariants as stage
use Rattle.transfer_resume.specs.Session.{stepped}
use Rattle.transfer_resume.specs.Opening as opening
use Rattle.transfer_resume.specs.Hears.{session_hears}
use Rattle.transfer_client.specs.declared.stages.Reading.TheVariants as reading
use Rattle.transfer_client.specs.Wait.{new_wait}
use Rattle.transfer_client.specs.Read.{Download, read_rules}
use Rattle.transfer_laws.specs.pairs.EndsWell.{ReadsAreRefused}
use Rattle.transfer_laws.proofs.pairs.Turns.{client_goes, goes_so, server_goes}

pub reads_are_refused : ReadsAreRefused
reads_are_refused k now resource offset window chunk status side refused =
    let asking : Download = record { resource = resource; asked = offset; window = window; chunk = chunk; agreed = None; stage = reading.Asking (new_wait now) } in
    let over : Download = record { resource = resource; asked = offset; window = window; chunk = chunk; agreed = None; stage = reading.Over status } in
    let told : session_hears k true None (start resource offset) ≡ record { after = Some (stage.Ended status); sayings = says (completion status) ∷ [] }
    = ap (λ s. stepped (opening.opened s k resource offset)) side ∙ ap (λ z. stepped (opening.opened_read k.time resource offset z)) refused in
    goes_so k read_rules now (record { server = None; client = asking; to_server = start resource offset ∷ []; to_client = []; said = 1 })
    (record { server = Some (stage.Ended status); client = asking; to_server = []; to_client = completion status ∷ []; said = 1 + 1 }) over (Some (stage.Ended status)) 3 refl
    (server_goes k read_rules now None (Some (stage.Ended status)) asking (start resource offset) [] [] (completion status ∷ []) (says (completion status) ∷ []) 1 told refl)
    (goes_so k read_rules now (record { server = Some (stage.Ended status); client = asking; to_server = []; to_client = completion status ∷ []; said = 1 + 1 })
    (record { server = Some (stage.Ended status); client = over; to_server = completion_ack ∷ []; to_client = []; said = 1 + 1 + 1 }) over (Some (stage.Ended status)) 3 refl
    (client_goes k read_rules now (Some (stage.Ended status)) asking over (completion status) [] (completion_ack ∷ []) (says completion_ack ∷ []) (1 + 1) refl refl)
    (record {
      turns = 0;
      last = record { server = Some (stage.Ended status); client = over; to_server = completion_ack ∷ []; to_client = []; said = 1 + 1 + 1 };
      way = refl;
      client = refl;
      to_client = refl;
      server = (refl, refl);
      few = omega arith;
    }))
