-- The client's task, over the client's work in a turn.
use Rattle.std.proofs.Common.{◌≡◌, ℕ, zero, suc, ◌+◌, ◌<◌, ◌≤◌, ◌==◌, ◌^◌, Bool, true, false, if◌then◌else◌, List, [], ◌∷◌, ◌++◌, codes, drop, flat_map, length, Option, Some, None, is_none, option_and_then, option_map, inl, inr, refl, sym, ap, ◌∙◌, subst, append_assoc, eq-eqb}
use Rattle.std.proofs.lemmas.List.{append-nil}
use Rattle.std.specs.List.{AllByRecursion}
use Rattle.link_io.specs.Resources.{first_of, found}
use Rattle.link_script.specs.declared.command.Command.{Command}
use Rattle.link_script.specs.declared.command.Command.TheVariants.{Read, Write}
use Rattle.rpc_ids.specs.declared.method.Role.TheVariants.{Client}
use Rattle.rpc_ids.specs.Names.{name_id}
use Rattle.rpc_handlers.specs.declared.answer.Answer.{Answer}
use Rattle.rpc_handlers.specs.declared.answer.Out.{Out}
use Rattle.rpc_handlers.specs.declared.answer.Out.TheVariants.{Say as Message, Begin, Append, Commit, Leave}
use Rattle.rpc_handlers.specs.declared.event.Event.{Event}
use Rattle.rpc_handlers.specs.declared.event.Event.TheVariants as event
use Rattle.rpc_handlers.specs.declared.event.Memo.{Memo}
use Rattle.rpc_journal.specs.declared.answers.SayRefused.{SayRefused}
use Rattle.rpc_journal.specs.declared.entry.Entry.{Entry}
use Rattle.rpc_journal.specs.declared.entry.EntryKind.{EntryKind}
use Rattle.rpc_journal.specs.declared.entry.EntryKind.TheVariants.{Start, Finish, Flush, Say}
use Rattle.rpc_journal.specs.declared.item.Act.{Act}
use Rattle.rpc_journal.specs.declared.item.Act.TheVariants.{Send, Keep, LeaveCall}
use Rattle.rpc_journal.specs.declared.item.Item.{Item}
use Rattle.rpc_journal.specs.declared.setting.Setting.{Setting}
use Rattle.rpc_journal.specs.Calls.{call_at, is_cancelled}
use Rattle.rpc_journal.specs.Effect.{Opening}
use Rattle.rpc_journal.specs.Entries.{out_item, with_call}
use Rattle.rpc_journal.specs.History.{adding, history}
use Rattle.rpc_journal.specs.Items.{items_sent}
use Rattle.rpc_journal.specs.Queues.{taken_event}
use Rattle.rpc_journal.specs.Refusals.{out_refusal, refused_where}
use Rattle.rpc_journal.specs.Rows.{says_item}
use Rattle.rpc_journal.specs.States.{state_before_run}
use Rattle.rpc_journal.proofs.PlaceLemmas.{some_same}
use Rattle.rpc_schedule.specs.Schedule.{IsByRule, Ran, flush_seat, run_seat}
use Rattle.task_core.specs.declared.mail.Mail.{Mail}
use Rattle.task_core.specs.declared.mail.Mail.TheVariants.{Text, Closed}
use Rattle.transfer_base.specs.declared.limits.TheConstants.{MAX_RESOURCE}
use Rattle.transfer_words.specs.Word.{Word, start, start_ack, confirmation, parameters, data_comes, completion, completion_ack}
use Rattle.transfer_words.specs.Spoken.{text_in}
use Rattle.transfer_words.specs.Saying.{Saying, says, begins, appends, commits, leaves, out_of, outs_of}
use Rattle.transfer_client.specs.Polling.{heard_word, polled}
use Rattle.transfer_client.specs.Read.{Download, new_download, read_rules}
use Rattle.transfer_client.specs.Write.{Upload, new_upload, write_rules}
use Rattle.demo_services.specs.Answers.{empty_answer}
use Rattle.demo_services.specs.Methods.{transfer_id}
use Rattle.link_laws.specs.uploads.CallItems.{item_outs}
use Rattle.link_laws.specs.uploads.Uploads.{deeds_by, deeds_in}
use Rattle.history_laws.specs.messages.Messages.{IsIn}
use Rattle.history_laws.proofs.messages.Members.{all_join, all_weaken, in_back, in_dropped, in_front}
use Rattle.transfer_laws.specs.words.Said.{FitsSaying}
use Rattle.transfer_laws.specs.words.Tasks.{HasToldOkay, HearsContent, HearsOf, Poll, WordsIn, deeds_said, said_over, stood}
use Rattle.transfer_laws.proofs.words.Downloads.{deeds_append, reads_make_whole}
use Rattle.transfer_laws.proofs.words.Uploads.{writes_are_honest}
use Rattle.link_laws.specs.world.Client.{FlushesTo, RunsTo, all_said_in, events_run, mail_between, mail_of, said_in, transfer_polled, transfer_says}
use Rattle.link_laws.specs.world.Setup.{quiet_rule}
use Rattle.link_laws.specs.world.World.{Setup, Tasked, Transfer, client_store, reads, writes}
use Rattle.link_laws.proofs.one_run.Links.{all_back}
use Rattle.link_laws.specs.okay_means_bytes.Okay.{HasStarted, IsDemo}
use Rattle.link_laws.proofs.okay_means_bytes.Items.{ClientInv, KnownAct, KnownItem, NotTransfer, Quiet, added_deed, deed_at, deeds_more, kept_at, kept_events, not_later, one_deeds, quiet_deeds, quiet_events, quiet_inv}

-- A transfer over its polls, of which the newest stands first.
abbrev pub stood_t : ℕ → Transfer → List Poll → Transfer
stood_t s t [] = t
stood_t s t (p ∷ ps) = transfer_polled s (stood_t s t ps) p.mail p.moment

abbrev pub sayings_of : ℕ → Transfer → List Mail → ℕ → List Saying
sayings_of s (reads d) mail now = (polled read_rules s d mail now).sayings
sayings_of s (writes u) mail now = (polled write_rules s u mail now).sayings

abbrev pub said_t : ℕ → Transfer → List Poll → List Saying
said_t s t [] = []
said_t s t (p ∷ ps) = said_t s t ps ++ sayings_of s (stood_t s t ps) p.mail p.moment

pub says_outs : (s : ℕ) (t : Transfer) (mail : List Mail) (now : ℕ) → transfer_says s t mail now ≡ outs_of s (sayings_of s t mail now)
says_outs s (reads d) mail now = refl
says_outs s (writes u) mail now = refl

pub stood_reads : (s : ℕ) (d : Download) (ps : List Poll) → stood_t s (reads d) ps ≡ reads (stood read_rules s d ps)
stood_reads s d [] = refl
stood_reads s d (p ∷ ps) = ap (λ t. transfer_polled s t p.mail p.moment) (stood_reads s d ps)

pub said_reads : (s : ℕ) (d : Download) (ps : List Poll) → said_t s (reads d) ps ≡ said_over read_rules s d ps
said_reads s d [] = refl
said_reads s d (p ∷ ps) = ap (λ t. said_t s (reads d) ps ++ sayings_of s t p.mail p.moment) (stood_reads s d ps) ∙ ap (λ ss. ss ++ (polled read_rules s (stood read_rules s d ps) p.mail p.moment).sayings) (said_reads s d ps)

pub stood_writes : (s : ℕ) (u : Upload) (ps : List Poll) → stood_t s (writes u) ps ≡ writes (stood write_rules s u ps)
stood_writes s u [] = refl
stood_writes s u (p ∷ ps) = ap (λ t. transfer_polled s t p.mail p.moment) (stood_writes s u ps)

pub said_writes : (s : ℕ) (u : Upload) (ps : List Poll) → said_t s (writes u) ps ≡ said_over write_rules s u ps
said_writes s u [] = refl
said_writes s u (p ∷ ps) = ap (λ t. said_t s (writes u) ps ++ sayings_of s t p.mail p.moment) (stood_writes s u ps) ∙ ap (λ ss. ss ++ (polled write_rules s (stood write_rules s u ps) p.mail p.moment).sayings) (said_writes s u ps)

-- A transfer of the client: how many lines were told as it began, its call, its session, how it began, and how its call was opened.
pub record Speech : Type 0 where
  pub number : ℕ
  pub call : ℕ
  pub session : ℕ
  pub begun : Transfer
  pub opening : Opening

module _ (k : Setup) (commands : List Command) where
  pub record ReadHow (number session : ℕ) (d : Download) (o : Opening) (ps : List Poll) : Type 0 where
    pub resource : ℕ
    pub asked : ℕ
    pub is : d ≡ new_download resource asked k.window k.chunk
    pub r_small : resource < 2 ^ 32
    pub a_small : asked ≤ MAX_RESOURCE
    pub method : o.name.method ≡ name_id (codes "Read")
    pub hears : HearsContent session (first_of d.resource k.server_store.full) d ps
    pub offered : ℕ
    pub started : HasStarted k commands number (Read resource offered)
    pub session_is : session ≡ started.world.sessions + 1

  pub record WriteHow (number session : ℕ) (u : Upload) (o : Opening) : Type 0 where
    pub resource : ℕ
    pub bytes : List ℕ
    pub offset : ℕ
    pub is : u ≡ new_upload resource bytes offset
    pub r_small : resource < 2 ^ 32
    pub size : length bytes ≤ MAX_RESOURCE
    pub within : offset ≤ length bytes
    pub method : o.name.method ≡ name_id (codes "Write")
    pub asked : ℕ
    pub started : HasStarted k commands number (Write resource asked)
    pub session_is : session ≡ started.world.sessions + 1
    pub had : found resource (client_store k started.world).full ≡ Some bytes

  abbrev pub How : ℕ → ℕ → Opening → List Poll → Transfer → Type 0
  How number session o ps (reads d) = ReadHow number session d o ps
  How number session o ps (writes u) = WriteHow number session u o

  -- all that it says fits
  fits_all : (demo : IsDemo k) (number session : ℕ) (o : Opening) (ps : List Poll) (t : Transfer) → How number session o ps t → AllByRecursion FitsSaying (said_t session t ps)
  fits_all demo number session o ps (reads d) how =
      subst (AllByRecursion FitsSaying) (sym (said_reads session d ps))
      (subst (λ x. HearsContent session (first_of d.resource k.server_store.full) x ps → AllByRecursion FitsSaying (said_over read_rules session x ps)) (sym how.is)
      (λ hears. (reads_make_whole session how.resource how.asked k.window k.chunk (first_of d.resource k.server_store.full) ps how.r_small how.a_small demo.window demo.chunk hears).fits) how.hears)
  fits_all demo number session o ps (writes u) how =
      subst (AllByRecursion FitsSaying) (sym (said_writes session u ps))
      (subst (λ x. AllByRecursion FitsSaying (said_over write_rules session x ps)) (sym how.is)
      (writes_are_honest session how.resource how.bytes how.offset ps how.r_small how.size how.within).fits)

  -- a piece of mail came as an event
  abbrev pub MailOf : List Event → Mail → Type 0
  MailOf evs (Text text) = IsIn (event.Message text) evs
  MailOf evs (Closed status) = Unit {0}

  abbrev pub AllMail : List Event → List Poll → Type 0
  AllMail evs ps = AllByRecursion (λ p. AllByRecursion (MailOf evs) p.mail) ps

  -- THE TASK SPEAKS, having been polled so
  pub record Speaks (h : List Entry) (n : ℕ) (x : Speech) (t : Tasked) (ps : List Poll) : Type 0 where
    pub is : t ≡ record { call = x.call; session = x.session; transfer = stood_t x.session x.begun ps }
    pub inv : ClientInv k.client h n x.session (said_t x.session x.begun ps)
    pub low : x.session ≤ n
    pub small : x.session < 2 ^ 32
    pub there : call_at (history k.client h) x.call ≡ Some x.opening
    pub service : x.opening.name.service ≡ transfer_id
    pub mails : AllMail (events_run k.client h x.call) ps
    pub deeds : deeds_by x.call x.session (items_sent (history k.client h)) ≡ deeds_said (said_t x.session x.begun ps)
    pub how : How x.number x.session x.opening ps x.begun

  mail_weaken : (evs fs : List Event) → ((ev : Event) → IsIn ev evs → IsIn ev fs) → (ps : List Poll) → AllMail evs ps → AllMail fs ps
  mail_weaken evs fs f ps all =
      all_weaken (λ p. AllByRecursion (MailOf evs) p.mail) (λ p. AllByRecursion (MailOf fs) p.mail) ps (λ p ms. all_weaken (MailOf evs) (MailOf fs) p.mail one ms) all
    where
      one : (m : Mail) → MailOf evs m → MailOf fs m
      one (Text text) is = f (event.Message text) is
      one (Closed status) is = tt

  module _ (role : k.client.role ≡ Client) where
    pub speaks_quiet : (h : List Entry) (n : ℕ) (x : Speech) (t : Tasked) (ps : List Poll) (seat : ℕ) (kind : EntryKind) → Quiet (history k.client h) kind → Speaks h n x t ps
        → Speaks (adding h seat kind) n x t ps
    speaks_quiet h n x t ps seat kind quiet s = record {
      is = s.is;
      inv = quiet_inv k.client role h seat kind quiet n x.session (said_t x.session x.begun ps) s.inv;
      low = s.low;
      small = s.small;
      there = kept_at k.client h seat kind x.call x.opening s.there;
      service = s.service;
      mails = mail_weaken (events_run k.client h x.call) _ (λ ev is. quiet_events k.client h seat kind x.call x.opening ev s.there quiet is) ps s.mails;
      deeds = quiet_deeds k.client role h seat kind quiet x.call x.session ∙ s.deeds;
      how = s.how;
    }

-- What each quiet entry keeps, runs and flushes keep.
module _ (set : Setting) (P : List Entry → Type 0) (keep : (h : List Entry) (seat : ℕ) (kind : EntryKind) → Quiet (history set h) kind → P h → P (adding h seat kind)) where
  quiet_answer : (h : List Entry) (c : ℕ) (a : Answer) → IsByRule quiet_rule set h c a → a ≡ empty_answer
  quiet_answer h c a by = by_state (state_before_run quiet_rule set (history set h) c) (taken_event (history set h) c) (by refl)
    where
      by_state : (m : Option Memo) (e : Option Event) → option_and_then (λ state. option_map (quiet_rule.answer state) e) m ≡ Some a → a ≡ empty_answer
      by_state None e is = absurd cc
      by_state (Some m) None is = absurd cc
      by_state (Some m) (Some ev) is = sym (some_same empty_answer a is)

  pub runs_keep : (n : ℕ) (h after : List Entry) → RunsTo quiet_rule set n h after → P h → P after
  runs_keep zero h after same p = subst P (sym same) p
  runs_keep (suc n) h after runs p =
      let r : Ran quiet_rule set h runs.0 = runs.1 in
      let begun : List Entry = adding h run_seat (Start r.call) in
      runs_keep n runs.0 after runs.2
      (subst P (sym r.adds) (keep begun run_seat (Finish r.call r.answer) (quiet_answer begun r.call r.answer r.by_rule) (keep h run_seat (Start r.call) tt p)))

  pub flushes_keep : (n : ℕ) (h after : List Entry) → FlushesTo set n h after → P h → P after
  flushes_keep zero h after same p = subst P (sym same) p
  flushes_keep (suc n) h after flushes p = flushes_keep n flushes.0 after flushes.2 (subst P (sym flushes.1.adds) (keep h flush_seat Flush tt p))

-- What a task says in its call.
module _ (set : Setting) (role : set.role ≡ Client) (n i c : ℕ) (o : Opening) (ss : List Saying) (service : o.name.service ≡ transfer_id) (low : i ≤ n) (small : i < 2 ^ 32) (ran : List Entry) where
  record Mid (h : List Entry) (ds : List Saying) : Type 0 where
    inv : ClientInv set h n i ss
    there : call_at (history set h) c ≡ Some o
    deeds : deeds_by c i (items_sent (history set h)) ≡ ds
    events : (ev : Event) → IsIn ev (events_run set ran c) → IsIn ev (events_run set h c)

  uncut : (h : List Entry) (ds : List Saying) → Mid h ds → is_cancelled (history set h) c ≡ false
  uncut h ds m = at (is_cancelled (history set h) c) refl
    where
      at : (b : Bool) → is_cancelled (history set h) c ≡ b → b ≡ false
      at false e = refl
      at true e =
          let not = m.inv.cuts c e in
          let same : not.opening ≡ o = some_same not.opening o (sym not.there ∙ m.there) in
          absurd (not.other (ap (λ (x : Opening). x.name.service) same ∙ service))

  -- the item that is added
  said_items : (h : List Entry) (out : Out) → call_at (history set h) c ≡ Some o → items_sent (history set (adding h run_seat (Say c out))) ≡ items_sent (history set h) ++ out_item Client c o.name out ∷ []
  said_items h out there =
      ap items_sent (added_deed set h run_seat (Say c out))
      ∙ (ap (λ x. items_sent (history set h) ++ (with_call x (λ y. says_item (out_item set.role c y.name out))).says) there
      ∙ ap (λ r. items_sent (history set h) ++ out_item r c o.name out ∷ []) role)

  said_out : (h : List Entry) (ds more : List Saying) (out : Out) → Mid h ds → KnownItem n i ss (out_item Client c o.name out) → deeds_in i (item_outs c (out_item Client c o.name out)) ≡ more
      → Mid (adding h run_seat (Say c out)) (ds ++ more)
  said_out h ds more out m known deeds = record {
    inv = record {
      items = subst (AllByRecursion (KnownItem n i ss)) (sym (said_items h out m.there)) (all_join (KnownItem n i ss) (items_sent (history set h)) _ m.inv.items (known, tt));
      cuts = subst (λ x. (q : ℕ) → is_cancelled x q ≡ true → NotTransfer x q) (sym (added_deed set h run_seat (Say c out))) (λ q is. not_later (deed_at set h run_seat (Say c out)) (history set h) q (m.inv.cuts q is));
    };
    there = kept_at set h run_seat (Say c out) c o m.there;
    deeds =
        ap (deeds_by c i) (said_items h out m.there)
        ∙ (deeds_more c i (items_sent (history set h)) (out_item Client c o.name out ∷ [])
        ∙ (ap (λ x. x ++ deeds_by c i (out_item Client c o.name out ∷ [])) m.deeds ∙ ap (λ x. ds ++ x) (one_deeds c i (out_item Client c o.name out) ∙ deeds)));
    events = λ ev is. kept_events set h run_seat (Say c out) c o ev m.there refl (m.events ev is);
  }

  refused_never : (b : Bool) (r : SayRefused) → b ≡ false → is_none (refused_where b r) ≡ true
  refused_never true r is = absurd cc
  refused_never false r is = refl

  -- a store action
  acts : (h : List Entry) (ds : List Saying) (x : Saying) → Mid h ds → (out : Out) → out_of i x ≡ out → KnownItem n i ss (out_item Client c o.name out) → deeds_in i (item_outs c (out_item Client c o.name out)) ≡ x ∷ []
      → is_none (out_refusal set (history set h) c out) ≡ true → Mid (said_in set c h (out_of i x)) (ds ++ x ∷ [])
  acts h ds x m out is known deeds taken =
      subst (λ y. Mid (said_in set c h y) (ds ++ x ∷ [])) (sym is)
      (subst (λ b. Mid (if b then adding h run_seat (Say c out) else h) (ds ++ x ∷ [])) (sym taken) (said_out h ds (x ∷ []) out m known deeds))

  same_call : (c == c) ≡ true
  same_call = eq-eqb c c refl

  same_session : (i == i) ≡ true
  same_session = eq-eqb i i refl

  says_one : (h : List Entry) (ds : List Saying) (x : Saying) → Mid h ds → FitsSaying x → ((w : Word) → x ≡ says w → IsIn (says w) ss) → Mid (said_in set c h (out_of i x)) (ds ++ deeds_said (x ∷ []))
  says_one h ds (says w) m fits own = by_refusal (is_none (out_refusal set (history set h) c (Message (text_in i w))))
    where
      deeds_none : deeds_in i (item_outs c (out_item Client c o.name (Message (text_in i w)))) ≡ []
      deeds_none = rw same_call refl

      by_refusal : (b : Bool) → Mid (if b then adding h run_seat (Say c (Message (text_in i w))) else h) (ds ++ [])
      by_refusal true =
          said_out h ds [] (Message (text_in i w)) m
          (λ type own_service. record { session = i; word = w; is = refl; low = low; small = small; fits = fits; own = λ same. own w refl }) deeds_none
      by_refusal false = subst (Mid h) (sym (append-nil ds)) m
  says_one h ds (begins r x) m fits own =
      acts h ds (begins r x) m (Begin i r x) refl low (rw (same_call, same_session) refl) (refused_never (is_cancelled (history set h) c) _ (uncut h ds m))
  says_one h ds (appends bytes) m fits own =
      acts h ds (appends bytes) m (Append i bytes) refl low (rw (same_call, same_session) refl) (refused_never (is_cancelled (history set h) c) _ (uncut h ds m))
  says_one h ds commits m fits own =
      acts h ds commits m (Commit i) refl low (rw (same_call, same_session) refl) (refused_never (is_cancelled (history set h) c) _ (uncut h ds m))
  says_one h ds leaves m fits own =
      acts h ds leaves m (Leave i) refl low (rw (same_call, same_session) refl) (refused_never (is_cancelled (history set h) c) _ (uncut h ds m))

  says_all : (xs : List Saying) (h : List Entry) (ds : List Saying) → Mid h ds → AllByRecursion FitsSaying xs → ((x : Saying) → IsIn x xs → IsIn x ss)
      → Mid (all_said_in set c (outs_of i xs) h) (ds ++ deeds_said xs)
  says_all [] h ds m fits own = subst (Mid h) (sym (append-nil ds)) m
  says_all (x ∷ xs) h ds m fits own =
      subst (Mid (all_said_in set c (outs_of i xs) (said_in set c h (out_of i x))))
      (append_assoc ds (deeds_said (x ∷ [])) (deeds_said xs) ∙ ap (λ y. ds ++ y) (sym (deeds_append (x ∷ []) xs)))
      (says_all xs (said_in set c h (out_of i x)) (ds ++ deeds_said (x ∷ []))
      (says_one h ds x m fits.0 (λ w is. subst (λ y. IsIn y ss) is (own x (inl refl)))) fits.1 (λ y is. own y (inr is)))

-- what was known stays so where more is said
known_more : (n i : ℕ) (ss more : List Saying) (items : List Item) → AllByRecursion (KnownItem n i ss) items → AllByRecursion (KnownItem n i (ss ++ more)) items
known_more n i ss more items all = all_weaken (KnownItem n i ss) (KnownItem n i (ss ++ more)) items (λ item. at item.act) all
  where
    at : (act : Act) → KnownAct n i ss act → KnownAct n i (ss ++ more) act
    at (Send p) known = λ type service.
        (let was = known type service in
        record { session = was.session; word = was.word; is = was.is; low = was.low; small = was.small; fits = was.fits; own = λ same. in_front (says was.word) ss more (was.own same) })
    at (Keep out) known = known
    at LeaveCall known = tt

-- the mail of events
mails_of : (all evs : List Event) → ((ev : Event) → IsIn ev evs → IsIn ev all) → (k : Setup) (commands : List Command) → AllByRecursion (MailOf k commands all) (flat_map mail_of evs)
mails_of all [] f k commands = tt
mails_of all (ev ∷ evs) f k commands = at ev (λ x same. f x (inl same)) (mails_of all evs (λ x is. f x (inr is)) k commands)
  where
    at : (e : Event) → ((x : Event) → x ≡ e → IsIn x all) → AllByRecursion (MailOf k commands all) (flat_map mail_of evs) → AllByRecursion (MailOf k commands all) (mail_of e ++ flat_map mail_of evs)
    at (event.Message payload) own rest = (own (event.Message payload) refl, rest)
    at (event.Ended status) own rest = (tt, rest)
    at (event.Request payload) own rest = rest
    at event.Completion own rest = rest
    at (event.Tick now) own rest = rest

words_of_mail : (session : ℕ) (P : Word → Type 0) (evs : List Event) (k : Setup) (commands : List Command) (mail : List Mail) → AllByRecursion (MailOf k commands evs) mail
    → ((text : List ℕ) → IsIn (event.Message text) evs → (w : Word) → heard_word session text ≡ Some w → P w) → WordsIn session P mail
words_of_mail session P evs k commands [] all each = tt
words_of_mail session P evs k commands (Text text ∷ mail) all each = (each text all.0, words_of_mail session P evs k commands mail all.1 each)
words_of_mail session P evs k commands (Closed status ∷ mail) all each = words_of_mail session P evs k commands mail all.1 each

hears_wider : (content : Option (List ℕ)) (T U : Type 0) → (T → U) → (w : Word) → HearsOf content T w → HearsOf content U w
hears_wider content T U f (data_comes p) h = h
hears_wider content T U f (completion status) h = λ is. f (h is)
hears_wider content T U f (start r o) h = tt
hears_wider content T U f (start_ack o) h = tt
hears_wider content T U f (confirmation ask) h = tt
hears_wider content T U f (parameters ask) h = tt
hears_wider content T U f completion_ack h = tt

-- what a read hears is true, where it had told the end OK before
abbrev pub TruthOf : Setup → Transfer → Type 0 → Word → Type 0
TruthOf k (reads d) T w = HearsOf (first_of d.resource k.server_store.full) T w
TruthOf k (writes u) T w = Unit {0}

module _ (k : Setup) (commands : List Command) (demo : IsDemo k) (role : k.client.role ≡ Client) where
  how_more : (number session : ℕ) (o : Opening) (ps : List Poll) (t : Transfer) (T : Type 0) (p : Poll) (evs : List Event) → (T → HasToldOkay (said_t session t ps)) → AllByRecursion (MailOf k commands evs) p.mail
      → ((text : List ℕ) → IsIn (event.Message text) evs → (w : Word) → heard_word session text ≡ Some w → TruthOf k t T w) → How k commands number session o ps t → How k commands number session o (p ∷ ps) t
  how_more number session o ps (writes u) T p evs told mail truth how = how
  how_more number session o ps (reads d) T p evs told mail truth how = record {
    resource = how.resource;
    asked = how.asked;
    is = how.is;
    r_small = how.r_small;
    a_small = how.a_small;
    method = how.method;
    hears = (
      words_of_mail session (HearsOf (first_of d.resource k.server_store.full) (HasToldOkay (said_over read_rules session d ps))) evs k commands p.mail mail
          (λ text is w heard. hears_wider (first_of d.resource k.server_store.full) T (HasToldOkay (said_over read_rules session d ps)) (λ t. subst HasToldOkay (said_reads session d ps) (told t)) w (truth text is w heard)),
      how.hears,
    );
    offered = how.offered;
    started = how.started;
    session_is = how.session_is;
  }

  -- ONE POLL, and what it says is said
  pub poll_speaks : (before ran : List Entry) (n : ℕ) (x : Speech) (t : Tasked) (ps : List Poll) (now : ℕ) (T : Type 0) → Speaks k commands ran n x t ps → (T → HasToldOkay (said_t x.session x.begun ps))
      → ((text : List ℕ) → IsIn (event.Message text) (events_run k.client ran x.call) → (w : Word) → heard_word x.session text ≡ Some w → TruthOf k x.begun T w)
      → let mail = mail_between k.client before ran x.call in
      Speaks k commands (all_said_in k.client x.call (transfer_says x.session (stood_t x.session x.begun ps) mail now) ran) n x
      (record { call = x.call; session = x.session; transfer = transfer_polled x.session (stood_t x.session x.begun ps) mail now }) (record { mail = mail; moment = now } ∷ ps)
  poll_speaks before ran n x t ps now T s told truth =
      let mail = mail_between k.client before ran x.call in
      let p : Poll = record { mail = mail; moment = now } in
      let stood_now : Transfer = stood_t x.session x.begun ps in
      let new : List Saying = sayings_of x.session stood_now mail now in
      let ss : List Saying = said_t x.session x.begun ps ++ new in
      let evs : List Event = events_run k.client ran x.call in
      let own_mail : AllByRecursion (MailOf k commands evs) mail =
      mails_of evs (drop (length (events_run k.client before x.call)) evs) (λ ev is. in_dropped ev (length (events_run k.client before x.call)) evs is) k commands in
      let how : How k commands x.number x.session x.opening (p ∷ ps) x.begun = how_more x.number x.session x.opening ps x.begun T p evs told own_mail truth s.how in
      let fits : AllByRecursion FitsSaying new = all_back FitsSaying (said_t x.session x.begun ps) new (fits_all k commands demo x.number x.session x.opening (p ∷ ps) x.begun how) in
      let begin : Mid k.client role n x.session x.call x.opening ss s.service s.low s.small ran ran (deeds_said (said_t x.session x.begun ps)) = record {
        inv = record { items = known_more n x.session (said_t x.session x.begun ps) new _ s.inv.items; cuts = s.inv.cuts };
        there = s.there;
        deeds = s.deeds;
        events = λ ev is. is;
      } in
      let m = says_all k.client role n x.session x.call x.opening ss s.service s.low s.small ran new ran (deeds_said (said_t x.session x.begun ps)) begin fits (λ y is. in_back y (said_t x.session x.begun ps) new is) in
      subst (λ outs. Speaks k commands (all_said_in k.client x.call outs ran) n x (record { call = x.call; session = x.session; transfer = transfer_polled x.session stood_now mail now }) (p ∷ ps))
      (sym (says_outs x.session stood_now mail now))
      (record {
        is = refl;
        inv = m.inv;
        low = s.low;
        small = s.small;
        there = m.there;
        service = s.service;
        mails = mail_weaken k commands evs _ m.events (p ∷ ps) (own_mail, s.mails);
        deeds = m.deeds ∙ sym (deeds_append (said_t x.session x.begun ps) new);
        how = how;
      })
