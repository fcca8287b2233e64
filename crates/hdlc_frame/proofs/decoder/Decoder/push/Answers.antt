use Rattle.std.proofs.Common.{◌≡◌, ◌∙◌, ℕ, List, [], ◌++◌, ap, sym, refl, Option, Some, None, arith}
use Rattle.std.specs.Option.{IsNone}
use Rattle.std.proofs.lemmas.List.{length-take-le}
use Rattle.hdlc_frame.specs.declared.closed.Closed.{Closed}
use Rattle.hdlc_frame.specs.declared.closed.Closed.TheVariants.{Faulty, Kept, Open, Whole}
use Rattle.hdlc_frame.specs.declared.found.Got.{Got}
use Rattle.hdlc_frame.specs.Found.{found}
use Rattle.hdlc_frame.specs.Lent.{found_in_got}
use Rattle.hdlc_frame.specs.Machine.{Reading}
use Rattle.hdlc_frame.specs.Steps.{closed_found}
use Rattle.hdlc_frame.proofs.Machines.{take_within}
use Rattle.hdlc_frame.proofs.decoder.Decoder.push.Goals as goal

none_open : (r : Reading) (piece : List ℕ) (closed : Closed) → [] ≡ closed_found r piece closed → closed ≡ Open
none_open r piece Open e = refl
none_open r piece (Faulty bad) e = absurd (cc)
none_open r piece Kept e = absurd (cc)
none_open r piece (Whole from to) e = absurd (cc)

nothing_open : (r : Reading) (piece : List ℕ) (closed : Closed) (got : Option Got) → found_in_got got ≡ closed_found r piece closed → IsNone got → closed ≡ Open
nothing_open r piece closed None e none = none_open r piece closed e
nothing_open r piece closed (Some got) e none = absurd (cc)

pub returns : goal.returns
returns c =
    let piece = c.args.piece.now in
    let old = c.args.self.now in
    let feed = c.feed-taken in
    let moves = feed.ensures.moves in (
      (refl, λ _. tt, record { limit = moves.limit; read = moves.read }),
      record {
        taken = feed.ensures.taken;
        whole = λ none. feed.ensures.whole (nothing_open feed.new.self piece feed.result.1 c.lend-got.result c.lend-got.ensures none);
        progress = feed.ensures.progress;
        gives = λ stream h. moves.gives stream h ∙ ap (λ l. found old.limit stream ++ l) (sym c.lend-got.ensures);
        first = λ stream h n below.
            ap (λ l. found old.limit (stream ++ l)) (sym (take_within n feed.result.0 piece (omega arith))) ∙ moves.late stream h n (omega (arith, length-take-le feed.result.0 piece feed.ensures.taken));
        state = tt;
      },
    )
