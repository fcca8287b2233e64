use Rattle.std.proofs.Common.{sym, ◌∙◌}
use Rattle.pw_run.proofs.CallLemmas.{bad_words_of, call_tells, call_there, called_by}
use Rattle.pw_run.proofs.CrewLemmas.{crew_reads}
use Rattle.pw_run.proofs.running.run.Goals as goal

pub returns-in-Some-Crew-clause-read : goal.returns-in-Some-Crew-clause-read
returns-in-Some-Crew-clause-read g c =
    crew_reads c.in-Some-Crew.workers _ _ c.crew.result (c.crew.ensures.did (g.N.Linker.links c.args.net.now))

pub returns-in-Some-clause-words : goal.returns-in-Some-clause-words
returns-in-Some-clause-words g c = (
  λ is. absurd (c.call.ensures.words (bad_words_of c.call.result (sym c.code.ensures ∙ is))),
  λ none. absurd (call_there _ c.in-Some.words c.in-Some.ensures.some none.2),
)

pub returns-in-Some-clause-called : goal.returns-in-Some-clause-called
returns-in-Some-clause-called g c = λ opening limit within is.
    let tells = call_tells _ c.in-Some.words opening limit within c.in-Some.ensures.some is in (
      c.call.result,
      c.code.ensures,
      called_by opening limit c.in-Some.words.limit within c.in-Some.words.within _ _ c.call.result tells.limit_is tells.within_is (c.call.ensures.did (g.I.Source.left c.args.input.now) opening tells.tells),
    )

pub returns-in-None-clause-called : goal.returns-in-None-clause-called
returns-in-None-clause-called g c = λ opening limit within is. absurd (c.in_default.ensures.none opening limit within is)
