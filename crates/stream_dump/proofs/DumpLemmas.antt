-- A dump over some bytes more.
use Rattle.std.proofs.Common.{◌≡◌, ℕ, ◌+◌, ◌<◌, ◌≤◌, take, drop, ◌-◌, IsNone, lit<, take-append-drop, true, false, List, [], ◌∷◌, ◌++◌, length, map, count_by, Option, Some, None, refl, sym, ap, ◌∙◌, subst, arith, append-nil, append_assoc, length-append}
use Rattle.std.specs.Io.Iter.{u64_saturate}
use Rattle.std.specs.Io.KnownBytes.{Appends}
use Rattle.std.proofs.KnownBytes.{Appends-nil, Appends-trans}
use Rattle.std.proofs.lemmas.List.{append_cancel_left, take_all, take_rest}
use Rattle.std.proofs.Math.Seq.{take-add}
use Rattle.std.proofs.lemmas.List.Elements.{All-take}
use Rattle.hdlc_frame.specs.declared.octets.TheConstants.{FLAG}
use Rattle.hdlc_frame.specs.Found.{Found, found, found_in}
use Rattle.hdlc_frame.specs.Laws.{ended}
use Rattle.hdlc_frame.specs.Machine.{HasRead, Reading}
use Rattle.hdlc_frame.specs.Segments.{is_flag, open_text}
use Rattle.hdlc_frame.specs.declared.told.Segment.{Segment}
use Rattle.hdlc_frame.specs.Told.{found_told, segment_found}
use Rattle.hdlc_frame.proofs.Counted.{saturated_if}
use Rattle.hdlc_frame.proofs.Parting.{NoFlag, found_flag, found_none, found_text}
use Rattle.link_io.specs.Device.{AppendsSome}
use Rattle.rpc_frames.specs.declared.counts.Counts.{Counts}
use Rattle.rpc_frames.specs.declared.limits.TheConstants.{LARGEST_CONTENT}
use Rattle.stream_dump.specs.Counting.{counted, counted_all, no_counts}
use Rattle.stream_dump.specs.Dump.{counts_line, dump_counts, dump_text, lines_of, is_bad, is_dropped, is_frame, is_other}
use Rattle.stream_dump.specs.Names.{Name}
use Rattle.stream_dump.specs.Progress.{DumpsOn, DumpsPart, IsDumped, Progress, Standing, StopsIn, behind_all, closed_lines, front_of, is_some_text, last_text}
use Rattle.stream_dump.specs.Steps.{ReadsText, ended_line, last_lines, last_word, apart_text}
use Rattle.stream_dump.proofs.LineLemmas.{behind_grows, closed_more, closing_line, ended_is, found_ended, last_line, last_same, lines_split, some_grows}
use Rattle.stream_dump.proofs.PrintLemmas.{some_first, some_then}
use Rattle.stream_dump.proofs.Texts.{front_flag, front_text, last_flag, last_more, open_is, split_is}

abbrev counts_in : List Found → Counts
counts_in all = record {
  valid = u64_saturate (count_by is_frame all);
  bad = u64_saturate (count_by is_bad all);
  other = u64_saturate (count_by is_other all);
  dropped = u64_saturate (count_by is_dropped all);
}

same_counts : (v b o d v' b' o' d' : ℕ) → v ≡ v' → b ≡ b' → o ≡ o' → d ≡ d'
    → ◌≡◌ {A = Counts} (record { valid = v; bad = b; other = o; dropped = d }) (record { valid = v'; bad = b'; other = o'; dropped = d' })
same_counts v b o d v' b' o' d' e1 e2 e3 e4 = cc

counted_one : (all : List Found) (one : Found) → counts_in (all ++ one ∷ []) ≡ counted (counts_in all) one
counted_one all one =
    same_counts _ _ _ _ _ _ _ _ (saturated_if is_frame all one) (saturated_if is_bad all one) (saturated_if is_other all one) (saturated_if is_dropped all one)

counted_more : (all more : List Found) → counted_all (counts_in all) more ≡ counts_in (all ++ more)
counted_more all [] = ap counts_in (sym (append-nil all))
counted_more all (one ∷ more) =
    ap (λ c. counted_all c more) (sym (counted_one all one)) ∙ counted_more (all ++ one ∷ []) more ∙ ap counts_in (append_assoc all (one ∷ []) more)

-- bytes without a flag
pub text_on : (names : List Name) (old new : Progress) (w first : Option (List ℕ)) (stream text : List ℕ) → NoFlag text → ReadsText old new text
    → IsDumped names (record { dumper = old; written = w }) first stream → IsDumped names (record { dumper = new; written = w }) first (stream ++ text)
text_on names old new w first stream text none r d = record {
  limit = r.limit ∙ d.limit;
  read = r.read stream d.read;
  start = ap (λ (p : Progress). p.start) r.is ∙ d.start ∙ ap behind_all (sym (front_text stream text none));
  len =
      ap (λ (p : Progress). p.len) r.is ∙ ap (λ n. n + length text) d.len ∙ sym (length-append (last_text stream) text) ∙
      ap length (sym (last_more stream text none));
  flagged = ap (λ (p : Progress). p.flagged) r.is ∙ d.flagged ∙ ap is_some_text (sym (front_text stream text none));
  counts = ap (λ (p : Progress). p.counts) r.is ∙ d.counts ∙ ap counts_in (sym (found_text LARGEST_CONTENT stream text none));
  wrote = subst (λ f. Appends first w (closed_lines names f)) (sym (front_text stream text none)) d.wrote;
}

-- what a dumper makes of a flag
pub record ReadsFlag (old new : Progress) (got : List Found) : Type 0 where
  pub limit : new.reading.limit ≡ old.reading.limit
  pub read : (stream : List ℕ) → HasRead old.reading stream → HasRead new.reading (stream ++ FLAG ∷ [])
  pub gives : (stream : List ℕ) → HasRead old.reading stream → found old.reading.limit (stream ++ FLAG ∷ []) ≡ found old.reading.limit stream ++ got
  pub is : new ≡ record { reading = new.reading; start = old.start + (old.len + 1); len = 0; flagged = true; counts = counted_all old.counts got }

-- what is found then
flag_gives : (limit : ℕ) (stream : List ℕ) (got : List Found) → limit ≡ LARGEST_CONTENT → found limit (stream ++ FLAG ∷ []) ≡ found limit stream ++ got
    → found LARGEST_CONTENT (stream ++ FLAG ∷ []) ≡ found LARGEST_CONTENT stream ++ got
flag_gives limit stream got is gives = subst (λ n. found n (stream ++ FLAG ∷ []) ≡ found n stream ++ got) is gives

got_is : (stream : List ℕ) (got : List Found) → found LARGEST_CONTENT (stream ++ FLAG ∷ []) ≡ found LARGEST_CONTENT stream ++ got
    → got ≡ found_ended (front_of stream) (last_text stream)
got_is stream got gives =
    append_cancel_left (found LARGEST_CONTENT stream) got (map (found_in LARGEST_CONTENT) (ended (open_text stream))) (sym gives ∙ found_flag LARGEST_CONTENT stream) ∙
    ap (λ o. map (found_in LARGEST_CONTENT) (ended o)) (open_is stream)

-- the line of what the flag ends
line_is : (names : List Name) (old : Progress) (w first : Option (List ℕ)) (stream : List ℕ) (got : List Found)
    → IsDumped names (record { dumper = old; written = w }) first stream
    → found LARGEST_CONTENT (stream ++ FLAG ∷ []) ≡ found LARGEST_CONTENT stream ++ got
    → ended_line names old.start old.len old.flagged got ≡ closing_line names (front_of stream) (last_text stream)
line_is names old w first stream got d gives =
    let front = front_of stream in
    let last = last_text stream in
    ap (λ a. ended_line names a old.len old.flagged got) d.start ∙
    ap (λ n. ended_line names (behind_all front) n old.flagged got) d.len ∙
    ap (λ b. ended_line names (behind_all front) (length last) b got) d.flagged ∙
    ap (λ s. ended_line names (behind_all front) (length last) (is_some_text front) s) (got_is stream got gives) ∙
    ended_is names front last

closed_flag : (names : List Name) (stream : List ℕ)
    → closed_lines names (front_of (stream ++ FLAG ∷ [])) ≡ closed_lines names (front_of stream) ++ closing_line names (front_of stream) (last_text stream)
closed_flag names stream = ap (closed_lines names) (front_flag stream) ∙ closed_more names (front_of stream) (last_text stream)

pub flag_on : (names : List Name) (old new : Progress) (w v : Option (List ℕ)) (got : List Found) → ReadsFlag old new got
    → Appends w v (ended_line names old.start old.len old.flagged got)
    → DumpsOn names (record { dumper = old; written = w }) (record { dumper = new; written = v }) (FLAG ∷ [])
flag_on names old new w v got r wrote first stream d =
    let front = front_of stream in
    let last = last_text stream in
    let gives = flag_gives old.reading.limit stream got d.limit (r.gives stream d.read) in
    record {
      limit = r.limit ∙ d.limit;
      read = r.read stream d.read;
      start =
          ap (λ (p : Progress). p.start) r.is ∙ ap (λ n. n + (old.len + 1)) d.start ∙ ap (λ n. behind_all front + (n + 1)) d.len ∙
          sym (behind_grows front last) ∙ ap behind_all (sym (front_flag stream));
      len = ap (λ (p : Progress). p.len) r.is ∙ ap length (sym (last_flag stream));
      flagged = ap (λ (p : Progress). p.flagged) r.is ∙ sym (some_grows front last) ∙ ap is_some_text (sym (front_flag stream));
      counts =
          ap (λ (p : Progress). p.counts) r.is ∙ ap (λ c. counted_all c got) d.counts ∙ counted_more (found LARGEST_CONTENT stream) got ∙
          ap counts_in (sym gives);
      wrote =
          subst (Appends first v) (ap (λ l. closed_lines names front ++ l) (line_is names old w first stream got d gives) ∙ sym (closed_flag names stream))
          (Appends-trans first w v (closed_lines names front) (ended_line names old.start old.len old.flagged got) d.wrote wrote);
    }

-- the whole text, by its parts
text_is : (names : List Name) (stream : List ℕ)
    → dump_text names stream ≡ closed_lines names (front_of stream) ++ (last_line (front_of stream) (last_text stream) ++ counts_line (dump_counts stream))
text_is names stream =
    ap (λ l. l ++ counts_line (dump_counts stream)) (ap (lines_of names) (split_is stream) ∙ lines_split names (front_of stream) (last_text stream)) ∙
    append_assoc (closed_lines names (front_of stream)) (last_line (front_of stream) (last_text stream)) (counts_line (dump_counts stream))

-- the line couldn't be written whole
pub flag_stops : (names : List Name) (old : Progress) (w v : Option (List ℕ)) (got : List Found)
    → ((stream : List ℕ) → HasRead old.reading stream → found old.reading.limit (stream ++ FLAG ∷ []) ≡ found old.reading.limit stream ++ got)
    → AppendsSome w v (ended_line names old.start old.len old.flagged got)
    → StopsIn names (record { dumper = old; written = w }) v (FLAG ∷ [])
flag_stops names old w v got gives_all wrote first stream d =
    let front = front_of stream in
    let all = stream ++ FLAG ∷ [] in
    let gives = flag_gives old.reading.limit stream got d.limit (gives_all stream d.read) in
    let some : AppendsSome first v (closed_lines names (front_of all)) =
    subst (AppendsSome first v) (ap (λ l. closed_lines names front ++ l) (line_is names old w first stream got d gives) ∙ sym (closed_flag names stream))
    (some_then first w v (closed_lines names front) (ended_line names old.start old.len old.flagged got) d.wrote wrote) in
    record {
      front = all;
      behind = [];
      begins = sym (append-nil all);
      wrote =
          subst (AppendsSome first v) (sym (text_is names all))
          (some_first first v (closed_lines names (front_of all)) (last_line (front_of all) (last_text all) ++ counts_line (dump_counts all)) some);
    }

-- the last lines
last_is : (names : List Name) (p : Progress) (w first : Option (List ℕ)) (stream : List ℕ) → IsDumped names (record { dumper = p; written = w }) first stream
    → last_lines p ≡ last_line (front_of stream) (last_text stream) ++ counts_line (dump_counts stream)
last_is names p w first stream d =
    let front = front_of stream in
    let last = last_text stream in
    let line : apart_text (last_word p.flagged) p.start p.len ≡ last_line front last =
    ap (λ b. apart_text (last_word b) p.start p.len) d.flagged ∙ ap (λ a. apart_text (last_word (is_some_text front)) a p.len) d.start ∙
    ap (λ n. apart_text (last_word (is_some_text front)) (behind_all front) n) d.len ∙ last_same front last in
    ap (λ l. l ++ counts_line p.counts) line ∙ ap (λ c. last_line front last ++ counts_line c) d.counts

pub dumped_whole : (names : List Name) (p : Progress) (w v first : Option (List ℕ)) (stream : List ℕ) → IsDumped names (record { dumper = p; written = w }) first stream
    → Appends w v (last_lines p) → Appends first v (dump_text names stream)
dumped_whole names p w v first stream d wrote =
    subst (Appends first v) (ap (λ l. closed_lines names (front_of stream) ++ l) (last_is names p w first stream d) ∙ sym (text_is names stream))
    (Appends-trans first w v (closed_lines names (front_of stream)) (last_lines p) d.wrote wrote)

pub dumped_part : (names : List Name) (p : Progress) (w v first : Option (List ℕ)) (stream : List ℕ) → IsDumped names (record { dumper = p; written = w }) first stream
    → AppendsSome w v (last_lines p) → DumpsPart names stream first v
dumped_part names p w v first stream d wrote = record {
  front = stream;
  behind = [];
  begins = sym (append-nil stream);
  wrote =
      subst (AppendsSome first v) (ap (λ l. closed_lines names (front_of stream) ++ l) (last_is names p w first stream d) ∙ sym (text_is names stream))
      (some_then first w v (closed_lines names (front_of stream)) (last_lines p) d.wrote wrote);
}

-- one behind the other
pub on_then : (names : List Name) (a b c : Standing) (x y : List ℕ) → DumpsOn names a b x → DumpsOn names b c y → DumpsOn names a c (x ++ y)
on_then names a b c x y p q first stream d = subst (IsDumped names c first) (append_assoc stream x y) (q first (stream ++ x) (p first stream d))

pub stops_then : (names : List Name) (a b : Standing) (v : Option (List ℕ)) (x y : List ℕ) → DumpsOn names a b x → StopsIn names b v y → StopsIn names a v (x ++ y)
stops_then names a b v x y p q first stream d = subst (λ s. DumpsPart names s first v) (append_assoc stream x y) (q first (stream ++ x) (p first stream d))

pub stops_more : (names : List Name) (a : Standing) (v : Option (List ℕ)) (x y : List ℕ) → StopsIn names a v x → StopsIn names a v (x ++ y)
stops_more names a v x y p first stream d = let part = p first stream d in record {
  front = part.front;
  behind = part.behind ++ y;
  begins = sym (append_assoc stream x y) ∙ ap (λ s. s ++ y) part.begins ∙ append_assoc part.front part.behind y;
  wrote = part.wrote;
}

-- bytes without a flag end nothing, so all of them are read
pub read_on : (old new : Reading) (text buffer : List ℕ) (taken : ℕ) (segment : Option Segment) → NoFlag text → (IsNone segment → taken ≡ length text)
    → ((stream : List ℕ) → HasRead old stream → HasRead new (stream ++ take taken text))
    → ((stream : List ℕ) → HasRead old stream → found old.limit (stream ++ take taken text) ≡ found old.limit stream ++ found_told segment buffer text)
    → (stream : List ℕ) → HasRead old stream → HasRead new (stream ++ text)
read_on old new text buffer taken None none whole read gives stream h =
    subst (λ t. HasRead new (stream ++ t)) (ap (λ n. take n text) (whole refl) ∙ take_all (length text) text (omega arith)) (read stream h)
read_on old new text buffer taken (Some segment) none whole read gives stream h =
    let same = found_text old.limit stream (take taken text) (All-take (λ octet. is_flag octet ≡ false) taken text none) in
    let longer : length (found old.limit stream) ≡ length (found old.limit stream ++ segment_found segment buffer text ∷ []) =
    ap length (sym same ∙ gives stream h) in
    absurd (omega (arith, longer, length-append (found old.limit stream) (segment_found segment buffer text ∷ [])))

-- of one byte one is taken
pub one_taken : (taken : ℕ) → taken ≤ length (FLAG ∷ []) → (0 < length (FLAG ∷ []) → 0 < taken) → take taken (FLAG ∷ []) ≡ FLAG ∷ []
one_taken taken most some = let one : taken ≡ 1 = omega (arith, some (lit< tt)) in ap (λ n. take n (FLAG ∷ [])) one

take_none : (xs : List ℕ) → take 0 xs ≡ []
take_none [] = refl
take_none (x ∷ xs) = refl

-- what a flag finds, by what the decoder tells of it
pub flag_finds : (old : Progress) (taken : ℕ) (segment : Option Segment) (buffer : List ℕ) (got : List Found)
    → taken ≤ length (FLAG ∷ []) → (0 < length (FLAG ∷ []) → 0 < taken)
    → ((stream : List ℕ) → HasRead old.reading stream → found old.reading.limit (stream ++ take taken (FLAG ∷ [])) ≡ found old.reading.limit stream ++ found_told segment buffer (FLAG ∷ []))
    → got ≡ found_told segment buffer (FLAG ∷ [])
    → (stream : List ℕ) → HasRead old.reading stream → found old.reading.limit (stream ++ FLAG ∷ []) ≡ found old.reading.limit stream ++ got
flag_finds old taken segment buffer got most some gives is stream h =
    ap (λ t. found old.reading.limit (stream ++ t)) (sym (one_taken taken most some)) ∙ gives stream h ∙ ap (λ g. found old.reading.limit stream ++ g) (sym is)

pub flag_read : (old : Progress) (reading : Reading) (taken : ℕ) (segment : Option Segment) (buffer : List ℕ) (got : List Found) (counts : Counts)
    → reading.limit ≡ old.reading.limit → taken ≤ length (FLAG ∷ []) → (0 < length (FLAG ∷ []) → 0 < taken)
    → ((stream : List ℕ) → HasRead old.reading stream → HasRead reading (stream ++ take taken (FLAG ∷ [])))
    → ((stream : List ℕ) → HasRead old.reading stream → found old.reading.limit (stream ++ take taken (FLAG ∷ [])) ≡ found old.reading.limit stream ++ found_told segment buffer (FLAG ∷ []))
    → got ≡ found_told segment buffer (FLAG ∷ []) → counts ≡ counted_all old.counts got
    → ReadsFlag old (record { reading = reading; start = old.start + (old.len + 1); len = 0; flagged = true; counts = counts }) got
flag_read old reading taken segment buffer got counts same most some read gives is counted_so = record {
  limit = same;
  read = λ stream h. subst (λ t. HasRead reading (stream ++ t)) (one_taken taken most some) (read stream h);
  gives = flag_finds old taken segment buffer got most some gives is;
  is = ap (λ k. record { reading = reading; start = old.start + (old.len + 1); len = 0; flagged = true; counts = k }) counted_so;
}

-- over a piece
pub on_nothing : (names : List Name) (a : Standing) (piece : List ℕ) → DumpsOn names a a (take 0 piece)
on_nothing names a piece first stream d = subst (IsDumped names a first) (sym (ap (λ t. stream ++ t) (take_none piece) ∙ append-nil stream)) d

pub on_more : (names : List Name) (a b c : Standing) (piece : List ℕ) (done taken : ℕ)
    → DumpsOn names a b (take done piece) → DumpsOn names b c (take taken (take (length piece - done) (drop done piece))) → DumpsOn names a c (take (done + taken) piece)
on_more names a b c piece done taken p q =
    subst (DumpsOn names a c) (ap (λ r. take done piece ++ take taken r) (take_rest piece done) ∙ sym (take-add done taken piece))
    (on_then names a b c (take done piece) (take taken (take (length piece - done) (drop done piece))) p q)

pub on_whole : (names : List Name) (a b : Standing) (piece : List ℕ) (done : ℕ) → length piece ≤ done → DumpsOn names a b (take done piece) → DumpsOn names a b piece
on_whole names a b piece done all p = subst (DumpsOn names a b) (take_all done piece all) p

pub stops_later : (names : List Name) (a b : Standing) (v : Option (List ℕ)) (piece : List ℕ) (done : ℕ)
    → DumpsOn names a b (take done piece) → StopsIn names b v (take (length piece - done) (drop done piece)) → StopsIn names a v piece
stops_later names a b v piece done p stops =
    subst (StopsIn names a v) (ap (λ r. take done piece ++ r) (take_rest piece done) ∙ take-append-drop done piece)
    (stops_then names a b v (take done piece) (take (length piece - done) (drop done piece)) p stops)

-- where a flag is in a piece
pub flag_on_piece : (names : List Name) (a b c : Standing) (piece : List ℕ) (at : ℕ) → take at piece ++ FLAG ∷ [] ≡ take (at + 1) piece
    → DumpsOn names a b (take at piece) → DumpsOn names b c (FLAG ∷ []) → DumpsOn names a c (take (at + 1) piece)
flag_on_piece names a b c piece at is p q = subst (DumpsOn names a c) is (on_then names a b c (take at piece) (FLAG ∷ []) p q)

pub flag_stops_piece : (names : List Name) (a b : Standing) (v : Option (List ℕ)) (piece : List ℕ) (at : ℕ) → take at piece ++ FLAG ∷ [] ≡ take (at + 1) piece
    → DumpsOn names a b (take at piece) → StopsIn names b v (FLAG ∷ []) → StopsIn names a v piece
flag_stops_piece names a b v piece at is p stops =
    let front : StopsIn names a v (take (at + 1) piece) = subst (StopsIn names a v) is (stops_then names a b v (take at piece) (FLAG ∷ []) p stops) in
    subst (StopsIn names a v) (take-append-drop (at + 1) piece) (stops_more names a v (take (at + 1) piece) (drop (at + 1) piece) front)

-- nothing came
pub none_dumped : (names : List Name) (p : Progress) (w : Option (List ℕ)) → p.reading.limit ≡ LARGEST_CONTENT → HasRead p.reading []
    → p ≡ record { reading = p.reading; start = 0; len = 0; flagged = false; counts = no_counts } → IsDumped names (record { dumper = p; written = w }) w []
none_dumped names p w limit read is = record {
  limit = limit;
  read = read;
  start = ap (λ (q : Progress). q.start) is;
  len = ap (λ (q : Progress). q.len) is;
  flagged = ap (λ (q : Progress). q.flagged) is;
  counts = ap (λ (q : Progress). q.counts) is ∙ ap counts_in (sym (found_none LARGEST_CONTENT));
  wrote = Appends-nil w;
}
