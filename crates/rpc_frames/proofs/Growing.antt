-- What one more segment does to the packets and the counts of a stream.
use Rattle.std.proofs.Common.{◌≡◌, ℕ, ◌≤◌, cond, List, [], ◌∷◌, ◌++◌, length, count_by, refl, sym, ◌∙◌, ap, arith, length-append, append-nil}
use mathlib.Core.List.{IsPrefix}
use Rattle.std.specs.Io.Iter.{u64_saturate}
use Rattle.std.specs.List.{filter_map, flat_map}
use Rattle.std.specs.Option.{option_to_list}
use Rattle.std.proofs.lemmas.Grind.{flat_map-append}
use Rattle.std.proofs.lemmas.List.Elements.{filter_map-append}
use Rattle.hdlc_frame.specs.declared.found.Bad.{Bad}
use Rattle.hdlc_frame.specs.Found.{FrameParts, Found, found, frames_in, faults_in, valid_frames, faults_of}
use Rattle.hdlc_frame.specs.Found.Found.{frame, fault}
use Rattle.hdlc_frame.specs.Counted.{one_more}
use Rattle.hdlc_frame.proofs.Counted.{saturated_if, saturated_length}
use Rattle.hdlc_frame.proofs.Parting.{found_begins, found_none}
use Rattle.rpc_ids.specs.declared.method.Role.{Role}
use Rattle.rpc_frames.specs.declared.counts.Counts.{Counts}
use Rattle.rpc_frames.specs.declared.heard.Heard.{Heard}
use Rattle.rpc_frames.specs.declared.heard.Heard.TheVariants as is
use Rattle.rpc_frames.specs.declared.limits.TheConstants.{LARGEST_CONTENT}
use Rattle.rpc_frames.specs.Counting.{with_segment}
use Rattle.rpc_frames.specs.Heard.{counts_of, heard_in_frame, heard_packets, is_dropped, is_other}
use Rattle.rpc_frames.specs.HeardAs.{HearsIn, packet_in}

-- the frames and faults of a stream with one more segment
abbrev pub IsMore : List ℕ → Found → List ℕ → Type 0
IsMore old one new = found LARGEST_CONTENT new ≡ found LARGEST_CONTENT old ++ one ∷ []

frames_more : (old new : List ℕ) (one : Found) → IsMore old one new → valid_frames LARGEST_CONTENT new ≡ valid_frames LARGEST_CONTENT old ++ flat_map frames_in (one ∷ [])
frames_more old new one more = ap (flat_map frames_in) more ∙ flat_map-append frames_in (found LARGEST_CONTENT old) (one ∷ [])

faults_more : (old new : List ℕ) (one : Found) → IsMore old one new → faults_of LARGEST_CONTENT new ≡ faults_of LARGEST_CONTENT old ++ flat_map faults_in (one ∷ [])
faults_more old new one more = ap (flat_map faults_in) more ∙ flat_map-append faults_in (found LARGEST_CONTENT old) (one ∷ [])

frames_frame : (old new : List ℕ) (f : FrameParts) → IsMore old (frame f) new → valid_frames LARGEST_CONTENT new ≡ valid_frames LARGEST_CONTENT old ++ f ∷ []
frames_frame old new f more = frames_more old new (frame f) more

frames_fault : (old new : List ℕ) (bad : Bad) → IsMore old (fault bad) new → valid_frames LARGEST_CONTENT new ≡ valid_frames LARGEST_CONTENT old
frames_fault old new bad more = frames_more old new (fault bad) more ∙ append-nil (valid_frames LARGEST_CONTENT old)

faults_frame : (old new : List ℕ) (f : FrameParts) → IsMore old (frame f) new → faults_of LARGEST_CONTENT new ≡ faults_of LARGEST_CONTENT old
faults_frame old new f more = faults_more old new (frame f) more ∙ append-nil (faults_of LARGEST_CONTENT old)

faults_fault : (old new : List ℕ) (bad : Bad) → IsMore old (fault bad) new → faults_of LARGEST_CONTENT new ≡ faults_of LARGEST_CONTENT old ++ bad ∷ []
faults_fault old new bad more = faults_more old new (fault bad) more

-- a frame more, in which this is heard
pub heard_frame : (role : Role) (old new : List ℕ) (f : FrameParts) → IsMore old (frame f) new → heard_packets role new ≡ heard_packets role old ++ filter_map (heard_in_frame role) (f ∷ [])
unfolding heard_packets
heard_frame role old new f more =
    ap (filter_map (heard_in_frame role)) (frames_frame old new f more) ∙
    filter_map-append (heard_in_frame role) (valid_frames LARGEST_CONTENT old) (f ∷ [])

heard_fault : (role : Role) (old new : List ℕ) (bad : Bad) → IsMore old (fault bad) new → heard_packets role new ≡ heard_packets role old
unfolding heard_packets
heard_fault role old new bad more = ap (filter_map (heard_in_frame role)) (frames_fault old new bad more)

same_counts : (v b o d v' b' o' d' : ℕ) → v ≡ v' → b ≡ b' → o ≡ o' → d ≡ d' → ◌≡◌ {A = Counts} (record { valid = v; bad = b; other = o; dropped = d }) (record { valid = v'; bad = b'; other = o'; dropped = d' })
same_counts v b o d v' b' o' d' p q r s = cc

counts_fault : (role : Role) (old new : List ℕ) (bad : Bad) → IsMore old (fault bad) new → counts_of role new ≡ with_segment (counts_of role old) is.Fault
unfolding counts_of
counts_fault role old new bad more =
    let frames = frames_fault old new bad more in
    let faults = ap (λ fs. u64_saturate (length fs)) (faults_fault old new bad more) ∙ saturated_length (faults_of LARGEST_CONTENT old) bad in
    same_counts _ _ _ _ _ _ _ _ (ap (λ fs. u64_saturate (length fs)) frames) faults
    (ap (λ fs. u64_saturate (count_by is_other fs)) frames) (ap (λ fs. u64_saturate (count_by (is_dropped role) fs)) frames)

-- a frame more, counted as other or dropped by these tests
counts_frame :
    (role : Role) (old new : List ℕ) (f : FrameParts) → IsMore old (frame f) new →
    counts_of role new ≡ record (counts_of role old) {
      valid = one_more (counts_of role old).valid;
      other = cond (is_other f) (one_more (counts_of role old).other) (counts_of role old).other;
      dropped = cond (is_dropped role f) (one_more (counts_of role old).dropped) (counts_of role old).dropped;
    }
unfolding counts_of
counts_frame role old new f more =
    let frames = frames_frame old new f more in
    same_counts _ _ _ _ _ _ _ _ (ap (λ fs. u64_saturate (length fs)) frames ∙ saturated_length (valid_frames LARGEST_CONTENT old) f)
    (ap (λ fs. u64_saturate (length fs)) (faults_frame old new f more))
    (ap (λ fs. u64_saturate (count_by is_other fs)) frames ∙ saturated_if is_other (valid_frames LARGEST_CONTENT old) f)
    (ap (λ fs. u64_saturate (count_by (is_dropped role) fs)) frames ∙ saturated_if (is_dropped role) (valid_frames LARGEST_CONTENT old) f)

-- the counts of a stream with one more segment
pub counts_more : (role : Role) (old new : List ℕ) (one : Found) (heard : Heard) → IsMore old one new → HearsIn role one heard → counts_of role new ≡ with_segment (counts_of role old) heard
counts_more role old new (fault bad) heard more hears = counts_fault role old new bad more ∙ ap (with_segment (counts_of role old)) (sym hears)
counts_more role old new (frame f) is.Fault more hears = absurd hears
counts_more role old new (frame f) is.Other more hears = counts_frame role old new f more ∙ rw hears refl
counts_more role old new (frame f) is.Dropped more hears = counts_frame role old new f more ∙ rw (hears.0, hears.1) refl
counts_more role old new (frame f) (is.Packet ptype packet) more hears = counts_frame role old new f more ∙ rw (hears.0, hears.1) refl

-- and its packets
pub packets_more : (role : Role) (old new : List ℕ) (one : Found) (heard : Heard) → IsMore old one new → HearsIn role one heard → heard_packets role new ≡ heard_packets role old ++ option_to_list (packet_in heard)
packets_more role old new (fault bad) heard more hears = heard_fault role old new bad more ∙ sym (append-nil (heard_packets role old)) ∙ ap (λ h. heard_packets role old ++ option_to_list (packet_in h)) (sym hears)
packets_more role old new (frame f) is.Fault more hears = absurd hears
packets_more role old new (frame f) is.Other more hears = heard_frame role old new f more ∙ rw hears refl
packets_more role old new (frame f) is.Dropped more hears = heard_frame role old new f more ∙ rw (hears.0, hears.1) refl
packets_more role old new (frame f) (is.Packet ptype packet) more hears = heard_frame role old new f more ∙ rw (hears.0, hears.1) refl

-- where nothing more is found
pub packets_same : (role : Role) (old new : List ℕ) → found LARGEST_CONTENT new ≡ found LARGEST_CONTENT old → heard_packets role new ≡ heard_packets role old
unfolding heard_packets
packets_same role old new same = ap (λ all. filter_map (heard_in_frame role) (flat_map frames_in all)) same

pub counts_same : (role : Role) (old new : List ℕ) → found LARGEST_CONTENT new ≡ found LARGEST_CONTENT old → counts_of role new ≡ counts_of role old
unfolding counts_of
counts_same role old new same =
    let frames : valid_frames LARGEST_CONTENT new ≡ valid_frames LARGEST_CONTENT old = ap (flat_map frames_in) same in
    let faults : faults_of LARGEST_CONTENT new ≡ faults_of LARGEST_CONTENT old = ap (flat_map faults_in) same in
    same_counts _ _ _ _ _ _ _ _ (ap (λ fs. u64_saturate (length fs)) frames) (ap (λ fs. u64_saturate (length fs)) faults)
    (ap (λ fs. u64_saturate (count_by is_other fs)) frames) (ap (λ fs. u64_saturate (count_by (is_dropped role) fs)) frames)

-- and where nothing is found at all
pub nothing_heard_in : (role : Role) → heard_packets role [] ≡ []
unfolding heard_packets
nothing_heard_in role = ap (λ all. filter_map (heard_in_frame role) (flat_map frames_in all)) (found_none LARGEST_CONTENT)

pub nothing_counted_in : (role : Role) → counts_of role [] ≡ record { valid = 0; bad = 0; other = 0; dropped = 0 }
unfolding counts_of
nothing_counted_in role =
    let none = found_none LARGEST_CONTENT in
    let frames : valid_frames LARGEST_CONTENT [] ≡ [] = ap (flat_map frames_in) none in
    let faults : faults_of LARGEST_CONTENT [] ≡ [] = ap (flat_map faults_in) none in
    same_counts _ _ _ _ _ _ _ _ (ap (λ fs. u64_saturate (length fs)) frames) (ap (λ fs. u64_saturate (length fs)) faults)
    (ap (λ fs. u64_saturate (count_by is_other fs)) frames) (ap (λ fs. u64_saturate (count_by (is_dropped role) fs)) frames)

-- In more of a stream the same packets are heard first.
pub packets_begin : (role : Role) (stream bytes : List ℕ) → IsPrefix (heard_packets role stream) (heard_packets role (stream ++ bytes))
unfolding heard_packets
packets_begin role stream bytes =
    let more = found_begins LARGEST_CONTENT stream bytes in
    let frames : valid_frames LARGEST_CONTENT (stream ++ bytes) ≡ valid_frames LARGEST_CONTENT stream ++ flat_map frames_in more.0 =
    ap (flat_map frames_in) (sym more.1) ∙ flat_map-append frames_in (found LARGEST_CONTENT stream) more.0 in (
      filter_map (heard_in_frame role) (flat_map frames_in more.0),
      sym (ap (filter_map (heard_in_frame role)) frames ∙ filter_map-append (heard_in_frame role) (valid_frames LARGEST_CONTENT stream) (flat_map frames_in more.0)),
    )

pub no_fewer : (role : Role) (stream bytes : List ℕ) → length (heard_packets role stream) ≤ length (heard_packets role (stream ++ bytes))
no_fewer role stream bytes =
    let begins = packets_begin role stream bytes in omega (arith, ap length begins.1, length-append (heard_packets role stream) begins.0)
