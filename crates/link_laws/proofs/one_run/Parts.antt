-- What the parts of a turn do to the histories and to what was fed, whatever the link does.
use Rattle.std.proofs.Common.{◌≡◌, ℕ, List, [], ◌∷◌, ◌++◌, length, drop, Option, Some, None, refl, ap, sym, ◌∙◌, subst, append_assoc}
use Rattle.std.specs.Prelude.{map, take, min, codes}
use Rattle.std.specs.List.{AllByRecursion}
use Rattle.std.proofs.lemmas.List.{append_cancel_left, take-append-drop}
use Rattle.std.proofs.lemmas.List.Concat.{flat_map-append}
use mathlib.Core.List.{IsPrefix}
use Rattle.link_script.specs.declared.command.Command.{Command}
use Rattle.link_script.specs.declared.command.Command.TheVariants.{Read, Write, Echo, Count, Sum, Chat, Close}
use Rattle.link_io.specs.Resources.{found}
use Rattle.rpc_ids.specs.declared.method.Role.{Role}
use Rattle.rpc_ids.specs.declared.method.Role.TheVariants.{Server, Client}
use Rattle.rpc_ids.specs.Names.{name_id}
use Rattle.rpc_packet.specs.declared.call_name.CallName.{CallName}
use Rattle.rpc_packet.specs.declared.owned.Packet.{Packet}
use Rattle.rpc_frames.specs.Heard.{heard_packets}
use Rattle.rpc_frames.specs.Written.{IsBetweenFrames, IsSendable}
use Rattle.rpc_frames.proofs.HeardBack.{is_heard_back, readable}
use Rattle.rpc_handlers.specs.declared.answer.Out.TheVariants.{Say as Message}
use Rattle.rpc_handlers.specs.HandlerRule.{empty_memo}
use Rattle.rpc_journal.specs.declared.entry.Entry.{Entry}
use Rattle.rpc_journal.specs.declared.entry.EntryKind.TheVariants.{EndIn, Invoke, Say, Done}
use Rattle.rpc_journal.specs.declared.item.Item.{Item}
use Rattle.rpc_journal.specs.declared.setting.Setting.{Setting}
use Rattle.rpc_journal.specs.Calls.{call_count}
use Rattle.rpc_journal.specs.History.{history}
use Rattle.rpc_journal.specs.Items.{items_flushed, packet_of, packets_of}
use Rattle.rpc_journal.proofs.ItemLemmas.{flushed_begin}
use Rattle.rpc_schedule.specs.Schedule.{input_seat}
use Rattle.link_laws.specs.world.Lines.{finished}
use Rattle.demo_services.specs.Methods.{transfer_id}
use Rattle.transfer_client.specs.Read.{new_download}
use Rattle.transfer_client.specs.Write.{new_upload}
use Rattle.link_laws.specs.world.Starts.{left_length, live_transfers, next_name, request, starts, starts_write, transfer_by}
use Rattle.link_laws.specs.world.Turns.{Ends}
use Rattle.link_laws.specs.world.World.{Setup, Transfer, World, client_deeds, client_store, flushed_since, moment, packets_flushed, reads, writes, with_client, with_server}
use Rattle.link_laws.proofs.one_run.Keeping.{sent_by, finish_keeps, sends_keep}
use Rattle.link_laws.proofs.one_run.Growing.{AreQuiet, begins, client_opened_goes, opened_goes}
use Rattle.link_laws.proofs.one_run.Links.{all_back, all_front, frame_of}

-- what holds of all packets that were flushed holds of those flushed in a beginning
pub flushed_before : (P : Packet → Type 0) (set : Setting) (h all : List Entry) → IsPrefix h all → AllByRecursion P (packets_flushed set all)
    → AllByRecursion P (packets_flushed set h)
flushed_before P set h all begin each =
    let front : List Item = items_flushed (history set h) in
    let more = flushed_begin set h begin.0 in
    let here : AllByRecursion P (packets_of (items_flushed (history set (h ++ begin.0)))) =
    subst (λ x. AllByRecursion P (packets_flushed set x)) (sym begin.1) each in
    all_front P (packets_of front) (packets_of more.0)
    (subst (AllByRecursion P) (flat_map-append (λ item. packet_of item.act) front more.0)
    (subst (λ items. AllByRecursion P (packets_of items)) (sym more.1) here))

-- and of those flushed since an earlier history
pub flushed_later : (P : Packet → Type 0) (set : Setting) (before after : List Entry) → AllByRecursion P (packets_flushed set after)
    → AllByRecursion P (flushed_since set before after)
flushed_later P set before after each =
    let n : ℕ = length (items_flushed (history set before)) in
    let items : List Item = items_flushed (history set after) in
    all_back P (packets_of (take n items)) (packets_of (drop n items))
    (subst (AllByRecursion P) (flat_map-append (λ item. packet_of item.act) (take n items) (drop n items))
    (subst (λ all. AllByRecursion P (packets_of all)) (sym (take-append-drop n items)) each))

-- a world goes on to another
pub record GoesOn (w now : World) : Type 0 where
  pub server : IsPrefix w.server now.server
  pub client : IsPrefix w.client now.client

pub on_to : (before after now : List Entry) → IsPrefix before after → now ≡ after → IsPrefix before now
on_to before after now on same = subst (IsPrefix before) (sym same) on

pub then_on : (w mid now : World) → GoesOn w mid → GoesOn mid now → GoesOn w now
then_on w mid now first more = record {
  server = (first.server.0 ++ more.server.0, sym (append_assoc w.server first.server.0 more.server.0) ∙ (ap (λ h. h ++ more.server.0) first.server.1 ∙ more.server.1));
  client = (first.client.0 ++ more.client.0, sym (append_assoc w.client first.client.0 more.client.0) ∙ (ap (λ h. h ++ more.client.0) first.client.1 ∙ more.client.1));
}

-- none of the entries of a start is an arrival
pub messages_quiet : (c : ℕ) (bytes : List ℕ) → AreQuiet (map (λ byte. Say c (Message (byte ∷ []))) bytes ++ Done c ∷ [])
messages_quiet c [] = (refl, tt)
messages_quiet c (byte ∷ bytes) = (refl, messages_quiet c bytes)

pub transfer_quiet : (w : World) (live : List ℕ) (name : CallName) (next : ℕ) (t : Transfer) → AreQuiet (transfer_by w live (Invoke (request name []) empty_memo) next t).adds
transfer_quiet w [] name next t = (refl, tt)
transfer_quiet w (c ∷ cs) name next t = tt

pub starts_quiet : (k : Setup) (w : World) (command : Command) → AreQuiet (starts k w command).adds
starts_quiet k w (Read resource offset) =
    let ds = client_deeds k w in
    transfer_quiet w (live_transfers (name_id (codes "Read")) ds) (next_name transfer_id (name_id (codes "Read")) ds) (call_count ds)
    (reads (new_download resource (min offset (left_length k w resource)) k.window k.chunk))
starts_quiet k w (Write resource offset) = by_bytes (found resource (client_store k w).full)
  where
    by_bytes : (o : Option (List ℕ)) → AreQuiet (starts_write k w resource offset o).adds
    by_bytes None = tt
    by_bytes (Some bytes) =
        let ds = client_deeds k w in
        transfer_quiet w (live_transfers (name_id (codes "Write")) ds) (next_name transfer_id (name_id (codes "Write")) ds) (call_count ds)
        (writes (new_upload resource bytes (min offset (length bytes))))
starts_quiet k w (Echo bytes) = (refl, tt)
starts_quiet k w (Count n) = (refl, tt)
starts_quiet k w (Sum bytes) = (refl, messages_quiet (call_count (client_deeds k w)) bytes)
starts_quiet k w (Chat bytes) = (refl, messages_quiet (call_count (client_deeds k w)) bytes)
starts_quiet k w (Close channel) = tt

-- with the front frame of a link just its packet is heard
pub heard_front : (role : Role) (fed frame : List ℕ) (p : Packet) (packets : List Packet) → IsSendable role p → IsBetweenFrames fed → frame ≡ frame_of p
    → heard_packets role (fed ++ frame) ≡ heard_packets role fed ++ packets → packets ≡ p ∷ []
heard_front role fed frame p packets fits between is heard =
    let back = is_heard_back role p (readable role p fits) in
    append_cancel_left (heard_packets role fed) packets (p ∷ [])
    (sym heard ∙ (ap (λ f. heard_packets role (fed ++ f)) is ∙ back.between fed between))

pub closed_by_front : (role : Role) (fed frame : List ℕ) (p : Packet) → IsSendable role p → frame ≡ frame_of p → IsBetweenFrames (fed ++ frame)
closed_by_front role fed frame p fits is =
    subst (λ f. IsBetweenFrames (fed ++ f)) (sym is) ((is_heard_back role p (readable role p fits)).closed fed)

module _ (k : Setup) where
  pub finished_server : (v : World) → (finished k v).server ≡ v.server
  finished_server v = finish_keeps k (λ x. x.server) (λ x lines. refl) (λ x a b. refl) v

  pub finished_client : (v : World) → (finished k v).client ≡ v.client
  finished_client v = finish_keeps k (λ x. x.client) (λ x lines. refl) (λ x a b. refl) v

  -- what the server flushed has gone out
  pub server_keeps : {A : Type 0} (f : World → A) → ((v : World) (p : Packet) → f (sent_by k Server v p) ≡ f v) → (v : World) (after : List Entry)
      → f (with_server k v after) ≡ f (record v { server = after })
  server_keeps f each v after = sends_keep k f Server each (flushed_since k.server v.server after) (record v { server = after })

  pub client_keeps : {A : Type 0} (f : World → A) → ((v : World) (p : Packet) → f (sent_by k Client v p) ≡ f v) → (v : World) (after : List Entry)
      → f (with_client k v after) ≡ f (record v { client = after })
  client_keeps f each v after = sends_keep k f Client each (flushed_since k.client v.client after) (record v { client = after })

  -- the end adds to both histories
  pub ends_on : (w now : World) → Ends k w now → GoesOn w now
  ends_on w now t =
      let x : World = with_server k w t.server in
      let client_goes = client_opened_goes k.client (moment w) w.client input_seat EndIn None t.client None t.client_settles in
      let server_goes = opened_goes k.rule k.server w.server input_seat EndIn t.server t.server_settles in
      let server_is : now.server ≡ t.server = ap (λ z. z.server) t.is ∙ (client_keeps (λ z. z.server) (λ z p. refl) x t.client ∙ server_keeps (λ z. z.server) (λ z p. refl) w t.server) in
      let client_is : now.client ≡ t.client = ap (λ z. z.client) t.is ∙ client_keeps (λ z. z.client) (λ z p. refl) x t.client in
      record {
        server = on_to w.server t.server now.server (begins w.server [] t.server server_goes) server_is;
        client = on_to w.client t.client now.client (begins w.client [] t.client client_goes) client_is;
      }
