-- What a client hears of a call of Write, and what its sessions make whole.
use Rattle.std.proofs.Common.{◌≡◌, ◌⊎◌, ℕ, ◌==◌, ◌||◌, Bool, true, false, if◌then◌else◌, List, [], ◌∷◌, ◌++◌, drop, map, Some, inl, inr, refl, sym, ap, ◌∙◌, subst, eq-eqb}
use Rattle.std.proofs.lemmas.Bool.{eqb-true, false≢true}
use Rattle.std.specs.List.{AllByRecursion, list_any}
use Rattle.std.proofs.lemmas.List.Elements.{All-from_recursion}
use Rattle.rpc_ids.specs.declared.Status.TheVariants.{Okay}
use Rattle.rpc_handlers.specs.declared.answer.Out.{Out}
use Rattle.rpc_handlers.specs.declared.answer.Out.TheVariants.{Say, Begin, Append, Commit, Leave}
use Rattle.rpc_journal.specs.table.Touch.{is_message}
use Rattle.rpc_journal.specs.History.{history}
use Rattle.rpc_journal.specs.Items.{items_sent}
use Rattle.transfer_base.specs.declared.Piece.{Piece}
use Rattle.transfer_base.specs.PieceLists.{IsPartOf, IsPickedFrom, OnlyTheLastEnds}
use Rattle.transfer_words.specs.Word.{start_ack, data_comes, completion}
use Rattle.transfer_words.specs.Saying.{Saying, says, begins, appends, commits, leaves, out_of}
use Rattle.transfer_resume.specs.declared.side.Side.TheVariants.{Write}
use Rattle.transfer_resume.specs.Opening.{agreed_offset}
use Rattle.transfer_resume.specs.Book.{Book, Outgoing, new_book, spelled, spelled_all}
use Rattle.transfer_resume.specs.Uploads.{Comes, chunk_comes, time_comes, call_ends, outs_over, step_at}
use Rattle.demo_services.specs.Uploads.{all_comes}
use Rattle.rpc_journal.specs.States.{finished_since}
use Rattle.link_laws.specs.uploads.CallItems.{AllButMessages, outs_by}
use Rattle.link_laws.specs.uploads.Okay.{FollowsCommit, IsCommitOf, IsTold, KnownAfter, OkayFollows, TellsOkay}
use Rattle.link_laws.specs.uploads.Uploads.{IsWhole, Uploads, deed_in, deeds_by, deeds_in, is_commit, pieces_to}
use Rattle.link_laws.proofs.uploads.ItemLemmas.{outs_by-append}
use Rattle.link_laws.proofs.uploads.OkayLaws.{okay_follows_commit}
use Rattle.link_laws.proofs.uploads.UploadLaws.{uploads_of_history}
use Rattle.history_laws.specs.messages.Messages.{IsIn}
use Rattle.history_laws.proofs.messages.Members.{in_all, in_front}
use Rattle.transfer_laws.specs.words.Said.{SaysPiecesOf}
use Rattle.transfer_laws.specs.words.Service.{AllChunks, BeginsOn, StartsOn}
use Rattle.transfer_laws.specs.words.Tasks.{SaysNoData}
use Rattle.transfer_laws.proofs.words.Service.{all_chunks, writes_begin_as_asked}
use Rattle.link_laws.specs.transfer_calls.Heard.{IsSaid}
use Rattle.link_laws.specs.transfer_calls.Transfers.{EndsFollowCommits, OffsetsAreAgreed, UploadsAreWhole}
use Rattle.link_laws.proofs.transfer_calls.Said.{came_said, comes_said, said_okay, said_starts}
use Rattle.link_laws.proofs.transfer_calls.Answered.{Answers, Heard, Out1, answers, came_in, chunks_said, heard_out, heard_said, out_of_call, outs}

-- A Commit before each end OK.
module _ (id : ℕ) where
  follows_wider : (K L : Type 0) (xs : List Outgoing) → (K → L) → FollowsCommit id K xs → FollowsCommit id L xs
  follows_wider K L [] f h = tt
  follows_wider K L (x ∷ xs) f h = (λ tells. f (h.0 tells), follows_wider (K ⊎ IsCommitOf id x) (L ⊎ IsCommitOf id x) xs wider h.1)
    where
      wider : K ⊎ IsCommitOf id x → L ⊎ IsCommitOf id x
      wider (inl known) = inl (f known)
      wider (inr commit) = inr commit

  known_wider : (K L : Type 0) (xs : List Outgoing) → (K → L) → KnownAfter id K xs → KnownAfter id L xs
  known_wider K L [] f h = f h
  known_wider K L (x ∷ xs) f h = known_wider (K ⊎ IsCommitOf id x) (L ⊎ IsCommitOf id x) xs wider h
    where
      wider : K ⊎ IsCommitOf id x → L ⊎ IsCommitOf id x
      wider (inl known) = inl (f known)
      wider (inr commit) = inr commit

  follows_join : (K : Type 0) (xs ys : List Outgoing) → FollowsCommit id K xs → FollowsCommit id (KnownAfter id K xs) ys → FollowsCommit id K (xs ++ ys)
  follows_join K [] ys first second = second
  follows_join K (x ∷ xs) ys first second = (first.0, follows_join (K ⊎ IsCommitOf id x) xs ys first.1 second)

  -- over all that comes, of which nothing tells the end OK
  abbrev Untold : List Comes → Type 0
  Untold es = AllByRecursion (λ e. IsTold id e → ⊥) es

  follows_over : (K : Type 0) (b : Book) (es : List Comes) → OkayFollows id K b es → Untold es → FollowsCommit id K (outs_over b es)
  follows_over K b [] h none = tt
  follows_over K b (e ∷ es) h none =
      let f : K ⊎ IsTold id e → K = known in
      follows_join K (step_at b e).outs (outs_over (step_at b e).after es) (follows_wider (K ⊎ IsTold id e) K (step_at b e).outs f h.0)
      (follows_wider (KnownAfter id (K ⊎ IsTold id e) (step_at b e).outs) (KnownAfter id K (step_at b e).outs) (outs_over (step_at b e).after es)
      (known_wider (K ⊎ IsTold id e) K (step_at b e).outs f)
      (follows_over (KnownAfter id (K ⊎ IsTold id e) (step_at b e).outs) (step_at b e).after es h.1 none.1))
    where
      known : K ⊎ IsTold id e → K
      known (inl k) = k
      known (inr told) = absurd (none.0 told)

  commit_spelled : (o : Outgoing) → IsCommitOf id o → spelled o ≡ Commit id
  commit_spelled o is = ap (out_of o.session) is.1 ∙ ap (λ s. out_of s commits) is.0

  -- Of what goes out, but for messages that don't, these stand in front: where one of them tells the end OK, a Commit is
  -- among them.
  front_commits : (K : Type 0) (all : List Outgoing) (front back : List Out) (m : Out) → FollowsCommit id K all → AllButMessages (spelled_all all) (front ++ back)
      → ((o : Outgoing) → IsIn o all → spelled o ≡ m → TellsOkay id o) → IsIn m front → K ⊎ IsIn (Commit id) front
  front_commits K [] [] back m follows but tells there = absurd there
  front_commits K [] (f ∷ front) back m follows but tells there = absurd cc
  front_commits K (o ∷ all) front back m follows (inl dropped) tells there =
      at (front_commits (K ⊎ IsCommitOf id o) all front back m follows.1 dropped.1 (λ x is. tells x (inr is)) there)
    where
      no_message : IsCommitOf id o → ⊥
      no_message is = false≢true (ap is_message (sym (commit_spelled o is)) ∙ dropped.0)

      at : (K ⊎ IsCommitOf id o) ⊎ IsIn (Commit id) front → K ⊎ IsIn (Commit id) front
      at (inl (inl known)) = inl known
      at (inl (inr commit)) = absurd (no_message commit)
      at (inr is) = inr is
  front_commits K (o ∷ all) [] back m follows (inr kept) tells there = absurd there
  front_commits K (o ∷ all) (f ∷ front) back m follows (inr kept) tells there =
      by_place (λ later. front_commits (K ⊎ IsCommitOf id o) all front back m follows.1 (subst (AllButMessages (spelled_all all)) (sym rest_is) kept.2) (λ x is. tells x (inr is)) later) there
    where
      first_is : f ≡ spelled o
      first_is = cc

      rest_is : front ++ back ≡ kept.0
      rest_is = cc

      at : (K ⊎ IsCommitOf id o) ⊎ IsIn (Commit id) front → K ⊎ IsIn (Commit id) (f ∷ front)
      at (inl (inl known)) = inl known
      at (inl (inr commit)) = inr (inl (sym (commit_spelled o commit) ∙ sym first_is))
      at (inr is) = inr (inr is)

      by_place : (IsIn m front → (K ⊎ IsCommitOf id o) ⊎ IsIn (Commit id) front) → IsIn m (f ∷ front) → K ⊎ IsIn (Commit id) (f ∷ front)
      by_place more (inl same) = inl (follows.0 (tells o (inl refl) (sym first_is ∙ sym same)))
      by_place more (inr later) = at (more later)

-- a Commit among what goes out is one among the store actions
commit_deed : (id : ℕ) (xs : List Out) → IsIn (Commit id) xs → list_any is_commit (deeds_in id xs) ≡ true
commit_deed id [] is = absurd is
commit_deed id (x ∷ xs) (inl same) = subst (λ y. list_any is_commit (deed_in id y ++ deeds_in id xs) ≡ true) same (own (id == id) (eq-eqb id id refl))
  where
    own : (b : Bool) → b ≡ true → list_any is_commit ((if b then commits ∷ [] else []) ++ deeds_in id xs) ≡ true
    own true e = refl
    own false e = absurd (false≢true e)
commit_deed id (x ∷ xs) (inr later) = behind (deed_in id x) (commit_deed id xs later)
  where
    behind : (ys : List Saying) → list_any is_commit (deeds_in id xs) ≡ true → list_any is_commit (ys ++ deeds_in id xs) ≡ true
    behind [] e = e
    behind (y ∷ ys) e = at (is_commit y) (behind ys e)
      where
        at : (b : Bool) → list_any is_commit (ys ++ deeds_in id xs) ≡ true → (b || list_any is_commit (ys ++ deeds_in id xs)) ≡ true
        at true rest = refl
        at false rest = rest

-- the Begin of a deed
begin_in : (id r o : ℕ) (xs : List Out) → IsIn (begins r o) (deeds_in id xs) → IsIn (Begin id r o) xs
begin_in id r o [] is = absurd is
begin_in id r o (x ∷ xs) is = at (either x is) (λ later. begin_in id r o xs later)
  where
    either : (y : Out) → IsIn (begins r o) (deed_in id y ++ deeds_in id xs) → (Begin id r o ≡ y) ⊎ IsIn (begins r o) (deeds_in id xs)
    either (Say payload) is = inr is
    either (Begin s r' o') is = by_id (s == id) refl is
      where
        by_id : (b : Bool) → (s == id) ≡ b → IsIn (begins r o) ((if b then begins r' o' ∷ [] else []) ++ deeds_in id xs) → (Begin id r o ≡ Begin s r' o') ⊎ IsIn (begins r o) (deeds_in id xs)
        by_id true e (inl same) =
            let both : (r ≡ r') × (o ≡ o') = (cc, cc) in
            inl (ap (λ n. Begin n r o) (sym (eqb-true s id e)) ∙ (ap (λ n. Begin s n o) both.0 ∙ ap (Begin s r') both.1))
        by_id true e (inr later) = inr later
        by_id false e later = inr later
    either (Append s bytes) is = by_id (s == id) is
      where
        by_id : (b : Bool) → IsIn (begins r o) ((if b then appends bytes ∷ [] else []) ++ deeds_in id xs) → (Begin id r o ≡ Append s bytes) ⊎ IsIn (begins r o) (deeds_in id xs)
        by_id true (inl same) = absurd cc
        by_id true (inr later) = inr later
        by_id false later = inr later
    either (Commit s) is = by_id (s == id) is
      where
        by_id : (b : Bool) → IsIn (begins r o) ((if b then commits ∷ [] else []) ++ deeds_in id xs) → (Begin id r o ≡ Commit s) ⊎ IsIn (begins r o) (deeds_in id xs)
        by_id true (inl same) = absurd cc
        by_id true (inr later) = inr later
        by_id false later = inr later
    either (Leave s) is = by_id (s == id) is
      where
        by_id : (b : Bool) → IsIn (begins r o) ((if b then leaves ∷ [] else []) ++ deeds_in id xs) → (Begin id r o ≡ Leave s) ⊎ IsIn (begins r o) (deeds_in id xs)
        by_id true (inl same) = absurd cc
        by_id true (inr later) = inr later
        by_id false later = inr later

    at : (Begin id r o ≡ x) ⊎ IsIn (begins r o) (deeds_in id xs) → (IsIn (begins r o) (deeds_in id xs) → IsIn (Begin id r o) xs) → IsIn (Begin id r o) (x ∷ xs)
    at (inl here) more = inl here
    at (inr later) more = inr (more later)

-- nothing joins of no pieces
none_join : (picked ps : List Piece) → OnlyTheLastEnds picked → IsPickedFrom picked ps → AllByRecursion (λ p. ⊥) ps → ⊥
none_join [] ps last picked none = last
none_join (q ∷ qs) [] last picked none = picked
none_join (q ∷ qs) (p ∷ ps) last picked none = none.0

module _ (session resource asked : ℕ) (said : List Saying) where
  begins_said : (o : Outgoing) (a : ℕ) → (o.session ≡ session → BeginsOn resource a o.saying) → (r x : ℕ) → spelled o ≡ Begin session r x → (r ≡ resource) × (x ≡ a)
  begins_said o a holds r x is = by_saying o.saying holds is
    where
      by_saying : (s : Saying) → (o.session ≡ session → BeginsOn resource a s) → out_of o.session s ≡ Begin session r x → (r ≡ resource) × (x ≡ a)
      by_saying (says w) holds is = absurd cc
      by_saying (begins r' x') holds is =
          let same : o.session ≡ session = cc in
          let r_is : r' ≡ r = cc in
          let x_is : x' ≡ x = cc in
          let both = holds same in (sym r_is ∙ both.0, sym x_is ∙ both.1)
      by_saying (appends bytes) holds is = absurd cc
      by_saying commits holds is = absurd cc
      by_saying leaves holds is = absurd cc

pub offsets_are_agreed : OffsetsAreAgreed
offsets_are_agreed shelf window chunk set h c session resource asked said payload offset call from asks is heard =
    let found : Heard Write shelf window chunk set h c call session (start_ack offset) = heard_said Write shelf window chunk set h c call session said payload (start_ack offset) from is heard in
    let begun =
    writes_begin_as_asked shelf window chunk session resource asked (came_in Write shelf window chunk set h c call)
    (all_chunks (IsSaid session said) (StartsOn session resource (λ o. o ≡ asked)) (said_starts session said resource asked asks) (came_in Write shelf window chunk set h c call) (chunks_said Write shelf window chunk set h c call session said from)) in
    subst (BeginsOn resource (agreed_offset shelf resource asked)) found.is (in_all _ (outs Write shelf window chunk set h c call) found.outgoing begun found.is_out found.in_session)

pub ends_follow_commits : EndsFollowCommits
ends_follow_commits shelf window chunk set h c session said items payload call from quiet front is heard =
    let es = came_in Write shelf window chunk set h c call in
    let all = outs Write shelf window chunk set h c call in
    let chunks = chunks_said Write shelf window chunk set h c call session said from in
    let ans : Answers Write shelf window chunk set h c = answers Write shelf window chunk set h c call in
    let parts : outs_by c items ++ outs_by c front.0 ≡ outs_by c (items_sent (history set h)) = sym (outs_by-append c items front.0) ∙ ap (outs_by c) front.1 in
    known (front_commits session ⊥ all (outs_by c items) (outs_by c front.0) (Say payload)
    (follows_over session ⊥ (new_book Write shelf window chunk) es (okay_follows_commit shelf window chunk es session) (untold es chunks))
    (subst (AllButMessages (spelled_all all)) (sym parts) ans.outs)
    (λ o there same. tells o there same) is)
  where
    untold : (es : List Comes) → AllChunks (IsSaid session said) es → AllByRecursion (λ e. IsTold session e → ⊥) es
    untold [] all = tt
    untold (chunk_comes x ∷ es) all = (λ told. false≢true (said_okay session said false quiet x all.0 told.0 (completion Okay) told.1 refl), untold es all.1)
    untold (time_comes now ∷ es) all = (λ told. told, untold es all.1)
    untold (call_ends ∷ es) all = (λ told. told, untold es all.1)

    tells : (o : Outgoing) → IsIn o (outs Write shelf window chunk set h c call) → spelled o ≡ Say payload → TellsOkay session o
    tells o there same = heard_out Write shelf window chunk set h c call session said payload (completion Okay) from o there same heard

    known : ⊥ ⊎ IsIn (Commit session) (outs_by c items) → IsIn (Commit session) (outs_by c items)
    known (inl none) = absurd none
    known (inr there) = there

pub uploads_are_whole : UploadsAreWhole
uploads_are_whole shelf window chunk set h c session resource asked bytes said items call from asks honest front commit =
    let u : Uploads (pieces_to set h c session) (deeds_by c session items) =
    uploads_of_history shelf window chunk set h c call.opening items session call.role call.seed call.legal call.own call.there front in
    let whole : IsWhole (pieces_to set h c session) (deeds_by c session items) = u.whole (commit_deed session (outs_by c items) commit) in
    let begun =
    writes_begin_as_asked shelf window chunk session resource asked (came_in Write shelf window chunk set h c call)
    (all_chunks (IsSaid session said) (StartsOn session resource (λ o. o ≡ asked)) (said_starts session said resource asked asks) (came_in Write shelf window chunk set h c call) (chunks_said Write shelf window chunk set h c call session said from)) in
    let begin_there : IsIn (Begin session whole.resource whole.offset) (outs_by c items) =
    begin_in session whole.resource whole.offset (outs_by c items) (subst (IsIn (begins whole.resource whole.offset)) (sym whole.deeds_are) (inl refl)) in
    let found : Out1 Write shelf window chunk set h c call (Begin session whole.resource whole.offset) =
    out_of_call Write shelf window chunk set h c call _ (subst (IsIn (Begin session whole.resource whole.offset)) (sym (outs_by-append c items front.0) ∙ ap (outs_by c) front.1) (in_front _ (outs_by c items) (outs_by c front.0) begin_there)) in
    let right = begins_said session resource asked said found.outgoing (agreed_offset shelf resource asked) (in_all _ (outs Write shelf window chunk set h c call) found.outgoing begun found.is_out) whole.resource whole.offset (sym found.is) in
    let all_chunks_said = comes_said session said (finished_since (history set h) c) (λ payload x there read. from payload x there read) in
    let parts : AllByRecursion (IsPartOf bytes) (pieces_to set h c session) =
    came_said session said (IsPartOf bytes) (λ p there. in_all (SaysPiecesOf (Some bytes)) said (says (data_comes p)) honest there) (all_comes (finished_since (history set h) c)) all_chunks_said in
    record {
      some_data = λ none.
          none_join whole.joins.picked (pieces_to set h c session) whole.joins.last whole.joins.in_order
          (came_said session said (λ p. ⊥) (λ p there. in_all SaysNoData said (says (data_comes p)) none there) (all_comes (finished_since (history set h) c)) all_chunks_said);
      whole = record {
        added = whole.bytes;
        deeds_are = whole.deeds_are ∙ (ap (λ n. begins n whole.offset ∷ (map appends whole.bytes ++ commits ∷ [])) right.0 ∙ ap (λ n. begins resource n ∷ (map appends whole.bytes ++ commits ∷ [])) right.1);
        bytes_are = whole.honest bytes (All-from_recursion (IsPartOf bytes) (pieces_to set h c session) parts) ∙ ap (λ n. drop n bytes) right.1;
      };
    }
