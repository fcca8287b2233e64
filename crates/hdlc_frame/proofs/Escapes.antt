-- A decoder reads an escape.
use Rattle.std.proofs.Common.{◌≡◌, ℕ, Bool, List, [], ◌∷◌, ◌++◌, refl, sym, subst}
use Rattle.hdlc_frame.specs.declared.phase.Phase.{Phase}
use Rattle.hdlc_frame.specs.declared.phase.Phase.TheVariants.{Outside, Start, Plain, Escaped, Broken}
use Rattle.hdlc_frame.specs.declared.octets.TheConstants.{ESCAPE}
use Rattle.hdlc_frame.specs.Machine.{HasRead, Reading}
use Rattle.hdlc_frame.specs.Steps.{Moves, after_escape, begun, escape_in}
use Rattle.hdlc_frame.proofs.Texts.{grown, has_more, one_escape, read_begun, read_breaking, read_broken, read_escaping, still_outside}
use Rattle.hdlc_frame.proofs.Runs.{moves_text}

escape_in_reads :
    (limit : ℕ) (phase : Phase) (is_long : Bool) (kept stream : List ℕ) →
    let before : Reading = record { limit = limit; phase = phase; is_long = is_long; content = kept } in
    HasRead before stream → HasRead (escape_in phase before) (stream ++ ESCAPE ∷ [])
unfolding HasRead
escape_in_reads limit Outside is_long kept stream h = still_outside stream (ESCAPE ∷ []) one_escape h
escape_in_reads limit Start is_long kept stream h =
    let before : Reading = record { limit = limit; phase = Start; is_long = is_long; content = kept } in
    (ESCAPE ∷ [], grown stream [] (ESCAPE ∷ []) one_escape h, refl, read_escaping (begun before) [] refl (read_begun before))
escape_in_reads limit Plain is_long kept stream h =
    let before : Reading = record { limit = limit; phase = Plain; is_long = is_long; content = kept } in
    (h.0 ++ ESCAPE ∷ [], grown stream h.0 (ESCAPE ∷ []) one_escape h.1, has_more h.0 (ESCAPE ∷ []) h.2, read_escaping before h.0 refl h.3)
escape_in_reads limit Escaped is_long kept stream h =
    let before : Reading = record { limit = limit; phase = Escaped; is_long = is_long; content = kept } in
    (h.0 ++ ESCAPE ∷ [], grown stream h.0 (ESCAPE ∷ []) one_escape h.1, has_more h.0 (ESCAPE ∷ []) h.2, read_breaking before h.0 refl h.3)
escape_in_reads limit Broken is_long kept stream h =
    let before : Reading = record { limit = limit; phase = Broken; is_long = is_long; content = kept } in
    (h.0 ++ ESCAPE ∷ [], grown stream h.0 (ESCAPE ∷ []) one_escape h.1, has_more h.0 (ESCAPE ∷ []) h.2, read_broken before h.0 (ESCAPE ∷ []) refl h.3)

escape_reads : (r : Reading) (stream : List ℕ) → HasRead r stream → HasRead (after_escape r) (stream ++ ESCAPE ∷ [])
escape_reads r stream h = escape_in_reads r.limit r.phase r.is_long r.content stream h

escape_limit : (phase : Phase) (r : Reading) → (escape_in phase r).limit ≡ r.limit
escape_limit Outside r = refl
escape_limit Start r = refl
escape_limit Plain r = refl
escape_limit Escaped r = refl
escape_limit Broken r = refl

pub moves_escape : (old new : Reading) → new ≡ after_escape old → Moves old new (ESCAPE ∷ []) []
moves_escape old new e =
    let P : Reading → Type 0 = λ r. Moves old r (ESCAPE ∷ []) [] in
    subst P (sym e) (moves_text old (after_escape old) (ESCAPE ∷ []) (escape_limit old.phase old) one_escape (λ stream h. escape_reads old stream h))
