use Rattle.std.proofs.Common.{◌≡◌, arith, ap, false, map, string_bytes, subst, sym, ◌∙◌}
use Rattle.std.proofs.lemmas.List.{length-map}
use Rattle.rpc_journal.specs.Kinds.{streams_up}
use Rattle.pw_run.specs.CallCommand.{first_of}
use Rattle.pw_run.specs.Payload.{IsPayload}
use Rattle.pw_run.proofs.CallLemmas.{first_tells, messages_quiet, one_word, request_first, told_length}
use Rattle.pw_run.proofs.call.said_of.Goals as goal

pub returns : goal.returns
returns c = λ told tells.
    let quiet : streams_up c.args.kind ≡ false = sym c.streams_out.ensures ∙ c.if-streams_out.false in
    let one = one_word c.args.kind _ quiet c.requires.2 in
    let count = told_length (map string_bytes c.args.words.now) c.requires.0 c.requires.1 in
    let found = first_tells c.args.words.now told c.index-words-0.result (omega (arith, one, count, length-map c.args.words.now string_bytes)) tells in
    let word = c.as_str.ensures.value ∙ ap string_bytes c.index-words-0.is in (
      c.in_ok-read_payload.ensures.only (first_of told) (subst (λ w. IsPayload w (first_of told)) (sym word) found) ∙ sym (request_first c.args.kind told quiet),
      c.new-2.ensures ∙ sym (messages_quiet c.args.kind told quiet),
    )
