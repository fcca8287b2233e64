-- The line of a transfer that has ended OK holds.
use Rattle.std.proofs.Common.{◌≡◌, ℕ, zero, suc, ◌+◌, ◌≤◌, Bool, true, false, List, [], ◌∷◌, codes, drop, filter_map, length, take, slice_get, Option, Some, None, option_map, unwrap_or, inl, inr, refl, sym, ap, ◌∙◌, subst, arith}
use Rattle.std.proofs.lemmas.List.{append-nil, length-drop, take-append-drop, take_all}
use Rattle.std.specs.List.{AllByRecursion}
use mathlib.Core.List.{IsPrefix}
use Rattle.link_io.specs.Resources.{first_of}
use Rattle.link_io.specs.Stored.{shelf_of}
use Rattle.link_script.specs.declared.command.Command.{Command}
use Rattle.link_script.specs.declared.report.ReportLine.{ReportLine}
use Rattle.link_script.specs.declared.report.ReportLine.TheVariants as line
use Rattle.rpc_ids.specs.declared.status.Status.{Status}
use Rattle.rpc_ids.specs.declared.status.Status.TheVariants.{Okay}
use Rattle.rpc_packet.specs.declared.call_name.CallName.{CallName}
use Rattle.rpc_packet.specs.declared.owned.Packet.{Packet}
use Rattle.rpc_handlers.specs.declared.answer.Out.TheVariants.{Say, Commit}
use Rattle.rpc_handlers.specs.declared.event.Event.{Event}
use Rattle.rpc_handlers.specs.declared.event.Event.TheVariants as event
use Rattle.rpc_journal.specs.declared.entry.Entry.{Entry}
use Rattle.rpc_journal.specs.declared.item.Item.{Item}
use Rattle.rpc_journal.specs.declared.setting.Setting.{Setting}
use Rattle.rpc_journal.specs.Calls.{call_at, is_cancelled}
use Rattle.rpc_journal.specs.Effect.{Opening}
use Rattle.rpc_journal.specs.History.{history}
use Rattle.rpc_journal.specs.Items.{arrivals, flush_count, items_flushed, items_sent}
use Rattle.rpc_journal.specs.Lawful.{IsLegal}
use Rattle.rpc_journal.proofs.PlaceLemmas.{some_same}
use Rattle.rpc_schedule.specs.Schedule.{NoneWaits}
use Rattle.task_core.specs.declared.mail.Mail.{Mail}
use Rattle.task_core.specs.declared.mail.Mail.TheVariants.{Text, Closed}
use Rattle.transfer_words.specs.Word.{Word, start_ack, completion}
use Rattle.transfer_words.specs.Saying.{Saying}
use Rattle.transfer_client.specs.Polling.{heard_word}
use Rattle.transfer_client.specs.Read.{Download, read_offset, read_rules}
use Rattle.transfer_client.specs.Write.{Upload, write_offset, write_rules}
use Rattle.transfer_resume.specs.Opening.{agreed_offset}
use Rattle.demo_services.specs.Methods.{transfer_id}
use Rattle.link_laws.specs.uploads.CallItems.{outs_by}
use Rattle.link_laws.specs.uploads.Uploads.{deeds_by}
use Rattle.history_laws.specs.messages.Messages.{IsIn}
use Rattle.history_laws.proofs.messages.Members.{in_taken}
use Rattle.transfer_laws.specs.words.Said.{SaysOkayWhere, SaysPiecesOf}
use Rattle.transfer_laws.specs.words.Tasks.{AsksFor, HasRead, HearsContent, HeardBy, HeardIn, MakesWhole, Poll, Reads, SaysNoData, Writes, deeds_said, said_over, stood}
use Rattle.transfer_laws.proofs.words.Downloads.{reads_make_whole}
use Rattle.transfer_laws.proofs.words.Uploads.{writes_are_honest}
use Rattle.link_laws.specs.transfer_calls.Transfers.{IsTransferCall, IsUploaded}
use Rattle.link_laws.proofs.transfer_calls.Writing.{ends_follow_commits, offsets_are_agreed, uploads_are_whole}
use Rattle.link_laws.specs.world.Client.{events_run}
use Rattle.link_laws.specs.world.Committed.{committed}
use Rattle.link_laws.specs.world.Lines.{calls_named, length_read, length_written, length_written_by, line_of, transfer_line}
use Rattle.link_laws.specs.world.World.{Setup, Tasked, Transfer, World, client_deeds, packets_flushed, reads, server_deeds, transferring, writes}
use Rattle.link_laws.specs.okay_means_bytes.Okay.{IsCommitted, IsDemo, LineHolds, ReadWell, WroteWell}
use Rattle.link_laws.proofs.okay_means_bytes.Named.{call_named, first_given, named_call}
use Rattle.link_laws.proofs.okay_means_bytes.Progress.{NotLeft, committed_out, whole_length}
use Rattle.link_laws.proofs.okay_means_bytes.ServerSide.{Serves, Told, comes, named_write, not_left, server_uncut, told, transfer_call}
use Rattle.link_laws.proofs.okay_means_bytes.Settles.{CameIn, came_in_packet, flushed_sent}
use Rattle.link_laws.proofs.okay_means_bytes.Speaks.{AllMail, How, MailOf, ReadHow, Speaks, Speech, WriteHow, said_reads, said_t, said_writes, stood_reads, stood_t, stood_writes}

-- all items have gone out
all_out : {A : Type 0} (xs : List A) (n : ℕ) → slice_get xs n ≡ None → take n xs ≡ xs
all_out [] n none = take_all n [] (omega arith)
all_out (x ∷ xs) zero none = absurd cc
all_out (x ∷ xs) (suc n) none = ap (λ ys. x ∷ ys) (all_out xs n none)

pub all_flushed : (set : Setting) (h : List Entry) → NoneWaits (history set h) → items_flushed (history set h) ≡ items_sent (history set h)
all_flushed set h none = all_out (items_sent (history set h)) (flush_count (history set h)) none

front_sent : (set : Setting) (h : List Entry) → IsPrefix (items_flushed (history set h)) (items_sent (history set h))
front_sent set h = (drop (flush_count (history set h)) (items_sent (history set h)), take-append-drop (flush_count (history set h)) (items_sent (history set h)))

whole_prefix : {A : Type 0} (xs : List A) → IsPrefix xs xs
whole_prefix xs = ([], append-nil xs)

rest_length : (offset : ℕ) (bytes : List ℕ) → offset ≤ length bytes → offset + length (drop offset bytes) ≡ length bytes
rest_length offset bytes within = omega (arith, length-drop offset bytes, within)

-- a word that was heard came in a message
pub record HeardAs (session : ℕ) (w : Word) (evs : List Event) : Type 0 where
  pub text : List ℕ
  pub there : IsIn (event.Message text) evs
  pub heard : heard_word session text ≡ Some w

heard_mail : (k : Setup) (commands : List Command) (session : ℕ) (w : Word) (evs : List Event) (mail : List Mail) → HeardBy session w mail → AllByRecursion (MailOf k commands evs) mail → HeardAs session w evs
heard_mail k commands session w evs [] heard all = absurd heard
heard_mail k commands session w evs (Text text ∷ mail) (inl here) all = record { text = text; there = all.0; heard = here }
heard_mail k commands session w evs (Text text ∷ mail) (inr later) all = heard_mail k commands session w evs mail later all.1
heard_mail k commands session w evs (Closed status ∷ mail) heard all = heard_mail k commands session w evs mail heard all.1

heard_polls : (k : Setup) (commands : List Command) (session : ℕ) (w : Word) (evs : List Event) (ps : List Poll) → HeardIn session w ps → AllMail k commands evs ps → HeardAs session w evs
heard_polls k commands session w evs [] heard all = absurd heard
heard_polls k commands session w evs (p ∷ ps) (inl here) all = heard_mail k commands session w evs p.mail here all.0
heard_polls k commands session w evs (p ∷ ps) (inr later) all = heard_polls k commands session w evs ps later all.1

module _ (k : Setup) (commands : List Command) (demo : IsDemo k) (v : World) (legal : IsLegal k.rule k.server v.server) (own : Serves v.server)
    (up : (p : Packet) → IsIn p (arrivals v.server) → IsIn p (packets_flushed k.client v.client)) (dn : (p : Packet) → IsIn p (arrivals v.client) → IsIn p (packets_flushed k.server v.server))
    (out : NoneWaits (history k.client v.client)) where
  -- the client's transfer calls aren't cancelled
  uncut : (n : ℕ) (x : Speech) (t : Tasked) (ps : List Poll) → Speaks k commands v.client n x t ps → is_cancelled (client_deeds k v) x.call ≡ false
  uncut n x t ps s = at (is_cancelled (client_deeds k v) x.call) refl
    where
      at : (b : Bool) → is_cancelled (client_deeds k v) x.call ≡ b → b ≡ false
      at false e = refl
      at true e =
          let not = s.inv.cuts x.call e in
          let same : not.opening ≡ x.opening = some_same not.opening x.opening (sym not.there ∙ s.there) in
          absurd (not.other (ap (λ (y : Opening). y.name.service) same ∙ s.service))

  -- A read.
  read_line : (n : ℕ) (x : Speech) (t : Tasked) (ps : List Poll) (d0 : Download) → Speaks k commands v.client n x t ps → x.begun ≡ reads d0 → (how : ReadHow k commands x.number x.session d0 x.opening ps)
      → let d : Download = stood read_rules x.session d0 ps in
      read_rules.end_of d ≡ Some Okay → LineHolds k commands v x.number (line.Read d.resource (read_offset d) Okay (length_read k v (record { call = x.call; session = x.session; transfer = reads d })))
  read_line n x t ps d0 s begun how ended =
      let r : Reads how.resource how.asked (first_of d0.resource k.server_store.full) (stood read_rules x.session d0 ps) (said_over read_rules x.session d0 ps) =
      subst (λ y. HearsContent x.session (first_of d0.resource k.server_store.full) y ps → Reads how.resource how.asked (first_of d0.resource k.server_store.full) (stood read_rules x.session y ps) (said_over read_rules x.session y ps)) (sym how.is)
      (λ hears. reads_make_whole x.session how.resource how.asked k.window k.chunk (first_of d0.resource k.server_store.full) ps how.r_small how.a_small demo.window demo.chunk hears) how.hears in
      let has : HasRead how.resource (first_of d0.resource k.server_store.full) (stood read_rules x.session d0 ps).agreed (said_over read_rules x.session d0 ps) = r.ended ended in
      let items : List Item = items_flushed (client_deeds k v) in
      let all : items ≡ items_sent (client_deeds k v) = all_flushed k.client v.client out in
      let deeds : deeds_by x.call x.session items ≡ deeds_said (said_over read_rules x.session d0 ps) =
      ap (deeds_by x.call x.session) all ∙ (s.deeds ∙ ap deeds_said (ap (λ y. said_t x.session y ps) begun ∙ said_reads x.session d0 ps)) in
      let whole : MakesWhole how.resource has.offset (drop has.offset has.bytes) (deeds_by x.call x.session items) =
      record { added = has.whole.added; deeds_are = deeds ∙ has.whole.deeds_are; bytes_are = has.whole.bytes_are } in
      let long : has.offset + length (drop has.offset has.bytes) ≡ length has.bytes = rest_length has.offset has.bytes has.within in
      let size : committed items x.session x.call ≡ Some (length has.bytes) =
      whole_length items x.session x.call how.resource has.offset (drop has.offset has.bytes)
      (not_left k.client v.client x.call items (uncut n x t ps s) (λ item there. in_taken item (flush_count (client_deeds k v)) (items_sent (client_deeds k v)) there)) whole
      (omega (arith, long, has.size)) ∙ ap Some long in
      let first_is : d0.resource ≡ how.resource = ap (λ (y : Download). y.resource) how.is in
      let at : read_offset (stood read_rules x.session d0 ps) ≡ has.offset = ap (λ o. unwrap_or o (stood read_rules x.session d0 ps).asked) has.agreed_is in
      let well : ReadWell k commands v x.number how.resource (read_offset (stood read_rules x.session d0 ps)) (length_read k v (record { call = x.call; session = x.session; transfer = reads (stood read_rules x.session d0 ps) })) =
      record {
        asked = how.offered;
        started = how.started;
        bytes = has.bytes;
        had = ap (λ q. first_of q k.server_store.full) (sym first_is) ∙ has.content_is;
        committed =
            subst (λ i. IsCommitted items i how.resource (read_offset (stood read_rules x.session d0 ps)) (drop (read_offset (stood read_rules x.session d0 ps)) has.bytes)) how.session_is
            (record {
              call = x.call;
              by_then = items;
              begin = whole_prefix items;
              whole = subst (λ o. MakesWhole how.resource o (drop o has.bytes) (deeds_by x.call x.session items)) (sym at) whole;
            });
        within = subst (λ o. o ≤ length has.bytes) (sym at) has.within;
        size_is = ap (λ o. unwrap_or o 0) size;
      } in
      subst (λ q. ReadWell k commands v x.number q (read_offset (stood read_rules x.session d0 ps)) (length_read k v (record { call = x.call; session = x.session; transfer = reads (stood read_rules x.session d0 ps) }))) (sym r.resource_is) well

  -- A write: a word that the task has heard went out of a call of the server.
  record FromServer (x : Speech) (w : Word) : Type 0 where
    call : ℕ
    opening : Opening
    there : call_at (server_deeds k v) call ≡ Some opening
    name_is : opening.name ≡ x.opening.name
    text : List ℕ
    said_there : IsIn (Say text) (outs_by call (items_flushed (server_deeds k v)))
    heard : heard_word x.session text ≡ Some w

  from_server : (n : ℕ) (x : Speech) (t : Tasked) (ps : List Poll) (w : Word) → Speaks k commands v.client n x t ps → HeardIn x.session w ps → FromServer x w
  from_server n x t ps w s heard =
      let h : HeardAs x.session w (events_run k.client v.client x.call) = heard_polls k commands x.session w (events_run k.client v.client x.call) ps heard s.mails in
      let c : CameIn k commands demo x (packets_flushed k.server v.server) h.text = came_in_packet k commands demo v.client n x t ps (packets_flushed k.server v.server) s dn h.text h.there in
      let f : Told k demo v.server v.client legal own up n x.session (said_t x.session x.begun ps) s.inv.items c.packet.name c.packet.payload =
      told k demo v.server v.client legal own up n x.session (said_t x.session x.begun ps) s.inv.items c.packet c.is_down c.type in
      record {
        call = f.call;
        opening = f.opening;
        there = f.there;
        name_is = f.name_is ∙ sym c.name;
        text = c.packet.payload;
        said_there = f.said_there;
        heard = ap (heard_word x.session) c.is ∙ h.heard;
      }

  module _ (n : ℕ) (x : Speech) (t : Tasked) (ps : List Poll) (u0 : Upload) (s : Speaks k commands v.client n x t ps) (begun : x.begun ≡ writes u0) (how : WriteHow k commands x.number x.session u0 x.opening) where
    abbrev u : Upload
    u = stood write_rules x.session u0 ps

    abbrev said : List Saying
    said = said_t x.session x.begun ps

    abbrev sent_items : List Item
    sent_items = items_flushed (server_deeds k v)

    said_is : said ≡ said_over write_rules x.session u0 ps
    said_is = ap (λ y. said_t x.session y ps) begun ∙ said_writes x.session u0 ps

    writes_so : Writes x.session how.resource how.bytes how.offset ps u (said_over write_rules x.session u0 ps)
    writes_so =
        subst (λ y. Writes x.session how.resource how.bytes how.offset ps (stood write_rules x.session y ps) (said_over write_rules x.session y ps)) (sym how.is)
        (writes_are_honest x.session how.resource how.bytes how.offset ps how.r_small how.size how.within)

    abbrev agreed : ℕ
    agreed = agreed_offset (shelf_of k.server_store) how.resource how.offset

    service_of : (c : ℕ) (o : Opening) → o.name ≡ x.opening.name → o.name.service ≡ transfer_id
    service_of c o same = ap (λ (y : CallName). y.service) same ∙ s.service

    its_call : (c : ℕ) (o : Opening) → call_at (server_deeds k v) c ≡ Some o → o.name ≡ x.opening.name → IsTransferCall (shelf_of k.server_store) k.window k.chunk k.server v.server (codes "Write") c
    its_call c o there same =
        transfer_call k demo v.server v.client legal own up n x.session said s.inv.items (codes "Write") c o there (service_of c o same) (ap (λ (y : CallName). y.method) same ∙ how.method) named_write

    -- what a call of the name has committed
    uploaded : (c : ℕ) (o : Opening) → call_at (server_deeds k v) c ≡ Some o → o.name ≡ x.opening.name → IsIn (Commit x.session) (outs_by c sent_items)
        → IsUploaded (shelf_of k.server_store) how.resource how.offset how.bytes said (deeds_by c x.session sent_items)
    uploaded c o there same commit =
        uploads_are_whole (shelf_of k.server_store) k.window k.chunk k.server v.server c x.session how.resource how.offset how.bytes said sent_items (its_call c o there same)
        (comes k demo v.server v.client legal own up n x.session said s.inv.items c o there (service_of c o same)) (subst (AllByRecursion (AsksFor how.resource how.offset)) (sym said_is) writes_so.asks)
        (subst (AllByRecursion (SaysPiecesOf (Some how.bytes))) (sym said_is) writes_so.honest) (front_sent k.server v.server) commit

    still : (c : ℕ) → AllByRecursion (λ item. NotLeft c item.call item.act) sent_items
    still c =
        not_left k.server v.server c sent_items (server_uncut k demo v.server v.client legal own up n x.session said s.inv.items c)
        (λ item there. in_taken item (flush_count (server_deeds k v)) (items_sent (server_deeds k v)) there)

    low : agreed ≤ length how.bytes
    low = omega (arith, how.within)

    size_of : (c : ℕ) (o : Opening) → call_at (server_deeds k v) c ≡ Some o → o.name ≡ x.opening.name → IsIn (Commit x.session) (outs_by c sent_items)
        → committed sent_items x.session c ≡ Some (length how.bytes)
    size_of c o there same commit =
        let long : agreed + length (drop agreed how.bytes) ≡ length how.bytes = rest_length agreed how.bytes low in
        whole_length sent_items x.session c how.resource agreed (drop agreed how.bytes) (still c) (uploaded c o there same commit).whole (omega (arith, long, how.size)) ∙ ap Some long

    wrote : write_rules.end_of u ≡ Some Okay
        → WroteWell k commands v x.number how.resource (write_offset u) (length_written k v (record { call = x.call; session = x.session; transfer = writes u }))
    wrote ended =
        let end : FromServer x (completion Okay) = from_server n x t ps (completion Okay) s (writes_so.ended ended) in
        let commit : IsIn (Commit x.session) (outs_by end.call sent_items) =
        ends_follow_commits (shelf_of k.server_store) k.window k.chunk k.server v.server end.call x.session said sent_items end.text (its_call end.call end.opening end.there end.name_is)
        (comes k demo v.server v.client legal own up n x.session said s.inv.items end.call end.opening end.there (service_of end.call end.opening end.name_is))
        (subst (AllByRecursion (SaysOkayWhere false)) (sym said_is) writes_so.no_end) (front_sent k.server v.server) end.said_there end.heard in
        let up_loaded = uploaded end.call end.opening end.there end.name_is commit in
        let at : write_offset u ≡ agreed = offset_is u.agreed refl up_loaded.some_data in
        let first : slice_get (filter_map (committed sent_items x.session) (calls_named x.opening.name (server_deeds k v))) 0 ≡ Some (length how.bytes) =
        first_given (committed sent_items x.session) (length how.bytes) (calls_named x.opening.name (server_deeds k v)) end.call
        (call_named x.opening.name (server_deeds k v) end.call end.opening end.there end.name_is) (size_of end.call end.opening end.there end.name_is commit)
        (λ c m there gives. each c m there gives) in
        record {
          asked = how.asked;
          started = how.started;
          bytes = how.bytes;
          had = how.had;
          committed =
              subst (λ i. IsCommitted sent_items i how.resource (write_offset u) (drop (write_offset u) how.bytes)) how.session_is
              (record {
                call = end.call;
                by_then = sent_items;
                begin = whole_prefix sent_items;
                whole = subst (λ o. MakesWhole how.resource o (drop o how.bytes) (deeds_by end.call x.session sent_items)) (sym at) up_loaded.whole;
              });
          within = subst (λ o. o ≤ length how.bytes) (sym at) low;
          size_is = ap (λ o. length_written_by k v x.session o) s.there ∙ ap (λ o. unwrap_or o 0) first;
        }
      where
        offset_is : (o : Option ℕ) → u.agreed ≡ o → (AllByRecursion SaysNoData said → ⊥) → unwrap_or o u.asked ≡ agreed
        offset_is None e some = absurd (some (subst (AllByRecursion SaysNoData) (sym said_is) (writes_so.before e)))
        offset_is (Some a) e some =
            let ack : FromServer x (start_ack a) = from_server n x t ps (start_ack a) s (writes_so.agreed a e).1 in
            offsets_are_agreed (shelf_of k.server_store) k.window k.chunk k.server v.server ack.call x.session how.resource how.offset said ack.text a (its_call ack.call ack.opening ack.there ack.name_is)
            (comes k demo v.server v.client legal own up n x.session said s.inv.items ack.call ack.opening ack.there (service_of ack.call ack.opening ack.name_is))
            (subst (AllByRecursion (AsksFor how.resource how.offset)) (sym said_is) writes_so.asks)
            (flushed_sent k.server v.server ack.call (Say ack.text) ack.said_there) ack.heard

        each : (c m : ℕ) → IsIn c (calls_named x.opening.name (server_deeds k v)) → committed sent_items x.session c ≡ Some m → m ≡ length how.bytes
        each c m there gives =
            let named = named_call x.opening.name (server_deeds k v) c there in
            some_same m (length how.bytes) (sym gives ∙ size_of c named.0 named.1 named.2 (committed_out sent_items x.session c m (still c) gives))

    write_line : write_rules.end_of u ≡ Some Okay
        → LineHolds k commands v x.number (line.Write u.resource (write_offset u) Okay (length_written k v (record { call = x.call; session = x.session; transfer = writes u })))
    write_line ended =
        subst (λ q. WroteWell k commands v x.number q (write_offset u) (length_written k v (record { call = x.call; session = x.session; transfer = writes u }))) (sym writes_so.resource_is) (wrote ended)

  -- THE LINE OF WHAT IS UNDER WAY, where it has ended
  read_told : (number resource offset size : ℕ) (status : Status) → (status ≡ Okay → LineHolds k commands v number (line.Read resource offset Okay size)) → LineHolds k commands v number (line.Read resource offset status size)
  read_told number resource offset size Okay holds = holds refl
  read_told number resource offset size _ holds = tt

  write_told : (number resource offset size : ℕ) (status : Status) → (status ≡ Okay → LineHolds k commands v number (line.Write resource offset Okay size)) → LineHolds k commands v number (line.Write resource offset status size)
  write_told number resource offset size Okay holds = holds refl
  write_told number resource offset size _ holds = tt

  told_is : (number : ℕ) (o : Option Status) (f : Status → ReportLine) (told : ReportLine) → option_map f o ≡ Some told → ((status : Status) → o ≡ Some status → LineHolds k commands v number (f status)) → LineHolds k commands v number told
  told_is number None f told is holds = absurd cc
  told_is number (Some status) f told is holds = subst (LineHolds k commands v number) (some_same (f status) told is) (holds status refl)

  reads_told : (n : ℕ) (x : Speech) (t : Tasked) (ps : List Poll) (d0 : Download) → Speaks k commands v.client n x t ps → x.begun ≡ reads d0 → ReadHow k commands x.number x.session d0 x.opening ps → (told : ReportLine)
      → line_of k v (transferring (record { call = x.call; session = x.session; transfer = reads (stood read_rules x.session d0 ps) })) ≡ Some told → LineHolds k commands v x.number told
  reads_told n x t ps d0 s begun how told is =
      let d : Download = stood read_rules x.session d0 ps in
      told_is x.number (read_rules.end_of d) (transfer_line k v (record { call = x.call; session = x.session; transfer = reads d }) (reads d)) told is
      (λ status ended. read_told x.number d.resource (read_offset d) (length_read k v (record { call = x.call; session = x.session; transfer = reads d })) status
      (λ okay. read_line n x t ps d0 s begun how (ended ∙ ap Some okay)))

  writes_told : (n : ℕ) (x : Speech) (t : Tasked) (ps : List Poll) (u0 : Upload) → Speaks k commands v.client n x t ps → x.begun ≡ writes u0 → WriteHow k commands x.number x.session u0 x.opening → (told : ReportLine)
      → line_of k v (transferring (record { call = x.call; session = x.session; transfer = writes (stood write_rules x.session u0 ps) })) ≡ Some told → LineHolds k commands v x.number told
  writes_told n x t ps u0 s begun how told is =
      let u1 : Upload = stood write_rules x.session u0 ps in
      told_is x.number (write_rules.end_of u1) (transfer_line k v (record { call = x.call; session = x.session; transfer = writes u1 }) (writes u1)) told is
      (λ status ended. write_told x.number u1.resource (write_offset u1) (length_written k v (record { call = x.call; session = x.session; transfer = writes u1 })) status
      (λ okay. write_line n x t ps u0 s begun how (ended ∙ ap Some okay)))

  pub task_told : (n : ℕ) (x : Speech) (t : Tasked) (ps : List Poll) → Speaks k commands v.client n x t ps → (told : ReportLine) → line_of k v (transferring t) ≡ Some told → LineHolds k commands v x.number told
  task_told n x t ps s told is = by_begun x.begun refl s.how (ap (λ y. line_of k v (transferring y)) (sym s.is) ∙ is)
    where
      by_begun : (b : Transfer) → x.begun ≡ b → How k commands x.number x.session x.opening ps b → line_of k v (transferring (record { call = x.call; session = x.session; transfer = stood_t x.session x.begun ps })) ≡ Some told
          → LineHolds k commands v x.number told
      by_begun (reads d0) e how is =
          reads_told n x t ps d0 s e how told
          (ap (λ y. line_of k v (transferring (record { call = x.call; session = x.session; transfer = y }))) (sym (ap (λ b. stood_t x.session b ps) e ∙ stood_reads x.session d0 ps)) ∙ is)
      by_begun (writes u0) e how is =
          writes_told n x t ps u0 s e how told
          (ap (λ y. line_of k v (transferring (record { call = x.call; session = x.session; transfer = y }))) (sym (ap (λ b. stood_t x.session b ps) e ∙ stood_writes x.session u0 ps)) ∙ is)
