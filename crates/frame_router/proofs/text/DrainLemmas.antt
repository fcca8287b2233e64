-- What is handed out of a direction, frame by frame.
use Rattle.std.proofs.Common.{◌≡◌, ℕ, ◌+◌, ◌-◌, ◌<◌, ◌≤◌, ◌⊎◌, inl, inr, List, [], ◌∷◌, ◌++◌, Option, Some, length, take, drop, refl, ap, sym, ◌∙◌, subst, arith, append_assoc, length-append}
use Rattle.std.specs.Option.{option_to_list}
use Rattle.std.proofs.Math.Seq.{drop-append_seam, take-append_seam}
use Rattle.std.proofs.lemmas.Grind.{flat_map-append}
use Rattle.std.proofs.lemmas.List.{append-nil, drop_all, take_all}
use Rattle.frame_router.specs.declared.port.Port.{Port}
use Rattle.frame_router.specs.declared.routes.Route.{Route}
use Rattle.frame_router.specs.Routed.{Arrival, HasRouted, LaneView}
use Rattle.frame_router.specs.text.Flows.{Flow, drained}
use Rattle.frame_router.specs.text.Following.{Follows}
use Rattle.frame_router.specs.text.Printed.{frame_line, frame_lines}

-- these frames were handed out and printed
pub record DrainsOn (routes : List Route) (from to : Port) (old now : LaneView) (text_old text_now : List ℕ) (given : List (List ℕ)) : Type 0 where
  pub was : old.waiting ≡ given ++ now.waiting
  pub routed : (stream : List ℕ) (arrivals : List Arrival) (before : List (List ℕ)) → HasRouted routes from old stream arrivals before →
      HasRouted routes from now stream arrivals (before ++ given)
  pub told : text_now ≡ text_old ++ frame_lines to given

pub drains_none : (routes : List Route) (from to : Port) (lane : LaneView) (text : List ℕ) → DrainsOn routes from to lane lane text text []
drains_none routes from to lane text = record {
  was = refl;
  routed = λ stream arrivals before h. subst (HasRouted routes from lane stream arrivals) (sym (append-nil before)) h;
  told = sym (append-nil text);
}

drains_more : (routes : List Route) (from to : Port) (old now new : LaneView) (text_old text_now text_new : List ℕ) (given : List (List ℕ)) (frame : List ℕ) →
    DrainsOn routes from to old now text_old text_now given → now.waiting ≡ frame ∷ new.waiting →
    ((stream : List ℕ) (arrivals : List Arrival) (before : List (List ℕ)) → HasRouted routes from now stream arrivals before →
    HasRouted routes from new stream arrivals (before ++ frame ∷ [])) →
    text_new ≡ text_now ++ frame_line to frame → DrainsOn routes from to old new text_old text_new (given ++ frame ∷ [])
drains_more routes from to old now new text_old text_now text_new given frame before front gives wrote = record {
  was = before.was ∙ (ap (λ l. given ++ l) front ∙ sym (append_assoc given (frame ∷ []) new.waiting));
  routed = λ stream arrivals first h.
      subst (HasRouted routes from new stream arrivals) (append_assoc first given (frame ∷ [])) (gives stream arrivals (first ++ given) (before.routed stream arrivals first h));
  told = wrote
      ∙ (ap (λ l. l ++ frame_line to frame) before.told
      ∙ (append_assoc text_old (frame_lines to given) (frame_line to frame)
      ∙ ap (λ l. text_old ++ l) (ap (λ l. frame_lines to given ++ l) (sym (append-nil (frame_line to frame))) ∙ sym (flat_map-append (frame_line to) given (frame ∷ [])))));
}

-- so many frames were handed out, or all
abbrev pub IsDone : ℕ → List (List ℕ) → List (List ℕ) → Type 0
IsDone count given left = (length given ≡ count) ⊎ ((left ≡ []) × (length given ≤ count))

taken_front : (count : ℕ) (given left : List (List ℕ)) → IsDone count given left → take count (given ++ left) ≡ given
taken_front count given left (inl exact) = ap (λ n. take n (given ++ left)) (sym exact) ∙ take-append_seam given left
taken_front count given left (inr (none, few)) = ap (λ l. take count (given ++ l)) none ∙ (ap (take count) (append-nil given) ∙ take_all count given few)

left_behind : (count : ℕ) (given left : List (List ℕ)) → IsDone count given left → drop count (given ++ left) ≡ left
left_behind count given left (inl exact) = ap (λ n. drop n (given ++ left)) (sym exact) ∙ drop-append_seam given left
left_behind count given left (inr (none, few)) =
    ap (λ l. drop count (given ++ l)) none ∙ (ap (drop count) (append-nil given) ∙ (drop_all count given few ∙ sym none))

pub drains_follow : (routes : List Route) (from to : Port) (old now : LaneView) (text_old text_now : List ℕ) (given : List (List ℕ)) (count : ℕ) (flow : Flow) →
    DrainsOn routes from to old now text_old text_now given → IsDone count given now.waiting → Follows routes from old flow → Follows routes from now (drained count flow)
drains_follow routes from to old now text_old text_now given count flow drains done h =
    let whole : flow.queue.waiting ≡ given ++ now.waiting = sym h.waits ∙ drains.was in
    let rest : drop count flow.queue.waiting ≡ now.waiting = ap (drop count) whole ∙ left_behind count given now.waiting done in
    let long = ap length whole ∙ length-append given now.waiting in
    let short = ap length rest in
    record {
      given = h.given ++ given;
      routed = drains.routed flow.stream flow.queue.arrivals h.given h.routed;
      waits = sym rest;
      few = omega (arith, h.few, long, short);
    }

pub drains_tell : (routes : List Route) (from to : Port) (old now : LaneView) (text_old text_now : List ℕ) (given : List (List ℕ)) (count : ℕ) (flow : Flow) →
    DrainsOn routes from to old now text_old text_now given → IsDone count given now.waiting → Follows routes from old flow →
    text_now ≡ text_old ++ frame_lines to (take count flow.queue.waiting)
drains_tell routes from to old now text_old text_now given count flow drains done h =
    let whole : flow.queue.waiting ≡ given ++ now.waiting = sym h.waits ∙ drains.was in
    let front : take count flow.queue.waiting ≡ given = ap (take count) whole ∙ taken_front count given now.waiting done in
    drains.told ∙ ap (λ l. text_old ++ frame_lines to l) (sym front)

-- what a call that hands out the next frame says, over the routes of the router at first
pub gives_on : (rs_old rs_new routes : List Route) (from : Port) (now new : LaneView) (result : Option (List ℕ)) (frames : List (List ℕ)) → rs_old ≡ routes → rs_new ≡ rs_old →
    option_to_list result ≡ frames →
    ((s : List ℕ) (a : List Arrival) (b : List (List ℕ)) → HasRouted rs_old from now s a b → HasRouted rs_new from new s a (b ++ option_to_list result)) →
    (s : List ℕ) (a : List Arrival) (b : List (List ℕ)) → HasRouted routes from now s a b → HasRouted routes from new s a (b ++ frames)
gives_on rs_old rs_new routes from now new result frames old_is new_is is gives s a b h =
    let first = gives s a b (subst (λ rs. HasRouted rs from now s a b) (sym old_is) h) in
    subst (λ rs. HasRouted rs from new s a (b ++ frames)) (new_is ∙ old_is) (subst (λ given. HasRouted rs_new from new s a (b ++ given)) is first)

-- none was there to be handed out
pub drains_stop : (routes : List Route) (from to : Port) (old now new : LaneView) (text_old text_now : List ℕ) (given : List (List ℕ)) →
    DrainsOn routes from to old now text_old text_now given → now.waiting ≡ new.waiting →
    ((s : List ℕ) (a : List Arrival) (b : List (List ℕ)) → HasRouted routes from now s a b → HasRouted routes from new s a (b ++ [])) →
    DrainsOn routes from to old new text_old text_now given
drains_stop routes from to old now new text_old text_now given drains same gives = record {
  was = drains.was ∙ ap (λ l. given ++ l) same;
  routed = λ s a b h. subst (HasRouted routes from new s a) (append-nil (b ++ given)) (gives s a (b ++ given) (drains.routed s a b h));
  told = drains.told;
}

-- one more was there to be handed out, and was printed
pub drains_next : (rs_old rs_new routes : List Route) (from to : Port) (old now new : LaneView) (text_old text_now text_new : List ℕ) (result : Option (List ℕ)) (frame slice : List ℕ) (count left : ℕ) →
    0 < left → (given : List (List ℕ)) × (length given + left ≡ count) × DrainsOn routes from to old now text_old text_now given → rs_old ≡ routes → rs_new ≡ rs_old →
    result ≡ Some frame → now.waiting ≡ option_to_list result ++ new.waiting →
    ((s : List ℕ) (a : List Arrival) (b : List (List ℕ)) → HasRouted rs_old from now s a b → HasRouted rs_new from new s a (b ++ option_to_list result)) →
    slice ≡ frame → text_new ≡ text_now ++ frame_line to slice →
    (given : List (List ℕ)) × (length given + (left - 1) ≡ count) × DrainsOn routes from to old new text_old text_new given
drains_next rs_old rs_new routes from to old now new text_old text_now text_new result frame slice count left some (given, many, before) old_is new_is is front gives same wrote =
    let one : option_to_list result ≡ frame ∷ [] = ap option_to_list is in (
      given ++ frame ∷ [],
      omega (arith, length-append given (frame ∷ []), many, some),
      drains_more routes from to old now new text_old text_now text_new given frame before (front ∙ ap (λ l. l ++ new.waiting) one)
          (gives_on rs_old rs_new routes from now new result (frame ∷ []) old_is new_is one gives)
          (wrote ∙ ap (λ l. text_now ++ frame_line to l) same),
    )
