-- Over a link that loses nothing what each end flushed is what has arrived at the other and, behind that, what is on the
-- link, in order.
use Rattle.std.proofs.Common.{◌≡◌, ℕ, zero, suc, ◌+◌, List, [], ◌∷◌, ◌++◌, length, drop, Option, Some, None, refl, ap, sym, ◌∙◌, subst, inl, append_assoc}
use Rattle.std.specs.Prelude.{map}
use Rattle.std.specs.List.{AllByRecursion}
use Rattle.std.proofs.lemmas.List.{append-nil, map-append}
use Rattle.std.proofs.lemmas.List.Concat.{flat_map-append}
use mathlib.Core.List.{IsPrefix}
use Rattle.hdlc_frame.specs.Segments.{open_text, texts_behind_flags}
use Rattle.link_script.specs.declared.command.Command.{Command}
use Rattle.link_script.specs.declared.command.Command.TheVariants.{Read, Write, Echo, Count, Sum, Chat, Close}
use Rattle.link_script.specs.declared.loss.Loss.{Loss}
use Rattle.link_script.specs.lossy.Link.{Link, loss_of, put, released}
use Rattle.rpc_ids.specs.declared.method.Role.TheVariants.{Server, Client}
use Rattle.rpc_packet.specs.declared.owned.Packet.{Packet}
use Rattle.rpc_frames.specs.Written.{IsBetweenFrames, IsSendable}
use Rattle.rpc_journal.specs.declared.entry.Entry.{Entry}
use Rattle.rpc_journal.specs.declared.entry.EntryKind.TheVariants.{Cancel, Tick, Close as Closing}
use Rattle.rpc_journal.specs.declared.item.Item.{Item}
use Rattle.rpc_journal.specs.declared.setting.Setting.{Setting}
use Rattle.rpc_journal.specs.History.{history}
use Rattle.rpc_journal.specs.Items.{arrivals, items_flushed, packet_of, packets_of}
use Rattle.rpc_journal.proofs.ItemLemmas.{flushed_begin}
use Rattle.rpc_schedule.specs.Schedule.{Settles, flush_seat, run_seat}
use Rattle.link_laws.specs.world.Lines.{finished}
use Rattle.link_laws.specs.world.Starts.{Started, all_added, starts, Asks, Closes, StartTurn, closed_by, with_command, ended_by_close}
use Rattle.link_laws.specs.world.Turns.{Cancels, ClientHears, ServerHears, TimePasses, Turn, TurnOf, Turns, ending, kind_by, later, next_kind, with_frame_at_client, with_frame_at_server}
use Rattle.link_laws.specs.world.World.{task_of, task_under, with_task, Setup, Under, World, all_sent_by, calling, closing, first_world, flushed_since, lacking, moment, packets_flushed, transferring, with_client, with_server, server_deeds}
use Rattle.link_laws.proofs.one_run.Keeping.{sent_by, down_behind, finish_keeps, up_behind}
use Rattle.link_laws.specs.one_run.InOrder.{HasAllArrived, NothingIsLost}
use Rattle.link_laws.proofs.one_run.Growing.{GoesOnWith, all_added_go, begins, client_opened_goes, client_settles_goes, client_takes_goes, goes_then, opened_goes, server_takes_goes, settles_goes}
use Rattle.link_laws.proofs.one_run.Links.{all_back, frame_of}
use Rattle.link_laws.proofs.one_run.Parts.{GoesOn, client_keeps, closed_by_front, finished_client, finished_server, flushed_before, heard_front, ends_on, on_to, server_keeps, starts_quiet, then_on}

-- the frames on the link are those of these packets, and none is kept back
record IsOn (ps : List Packet) (l : Link) : Type 0 where
  frames : l.frames ≡ map frame_of ps
  none_back : l.kept_back ≡ []

released_on : (ps : List Packet) (l : Link) → IsOn ps l → IsOn ps (released l)
released_on ps l on = record { frames = ap (λ back. l.frames ++ back) on.none_back ∙ (append-nil l.frames ∙ on.frames); none_back = refl }

put_on : (ps : List Packet) (p : Packet) (l : Link) (loss : Option Loss) → loss ≡ None → IsOn ps l → IsOn (ps ++ p ∷ []) (put loss (frame_of p) l)
put_on ps p l loss none on =
    subst (λ x. IsOn (ps ++ p ∷ []) (put x (frame_of p) l)) (sym none)
    (released_on (ps ++ p ∷ []) (record l { frames = l.frames ++ frame_of p ∷ [] })
    (record { frames = ap (λ front. front ++ frame_of p ∷ []) on.frames ∙ sym (map-append frame_of ps (p ∷ [])); none_back = on.none_back }))

-- what was flushed before, and since then
flushed_parts : (set : Setting) (before after : List Entry) → IsPrefix before after
    → packets_flushed set after ≡ packets_flushed set before ++ flushed_since set before after
flushed_parts set before after begin =
    let front : List Item = items_flushed (history set before) in
    let all : List Item = items_flushed (history set after) in
    let more = flushed_begin set before begin.0 in
    let whole : front ++ more.0 ≡ all = more.1 ∙ ap (λ h. items_flushed (history set h)) begin.1 in
    let rest : drop (length front) all ≡ more.0 = ap (drop (length front)) (sym whole) ∙ drop_front front more.0 in
    ap packets_of (sym whole) ∙ (flat_map-append (λ item. packet_of item.act) front more.0 ∙ ap (λ items. packets_of front ++ packets_of items) (sym rest))
  where
    drop_front : {A : Type 0} (xs ys : List A) → drop (length xs) (xs ++ ys) ≡ ys
    drop_front [] ys = refl
    drop_front (x ∷ xs) ys = drop_front xs ys

-- With these packets arrived at the server and at the client, the rest of what the other end flushed is on the link.
record IsOrdered (k : Setup) (came_up came_down : List Packet) (w : World) : Type 0 where
  up : List Packet
  down : List Packet
  to_server : IsOn up w.to_server
  to_client : IsOn down w.to_client
  sent_up : came_up ++ up ≡ packets_flushed k.client w.client
  sent_down : came_down ++ down ≡ packets_flushed k.server w.server
  fed_server : IsBetweenFrames w.fed_server
  fed_client : IsBetweenFrames w.fed_client

-- what each end has flushed fits the other
record Fits (k : Setup) (w : World) : Type 0 where
  up : AllByRecursion (IsSendable Server) (packets_flushed k.client w.client)
  down : AllByRecursion (IsSendable Client) (packets_flushed k.server w.server)

module _ (k : Setup) (calm : k.losses ≡ []) where
  abbrev Ordered : World → Type 0
  Ordered w = IsOrdered k (arrivals w.server) (arrivals w.client) w

  no_loss : (n : ℕ) → loss_of n k.losses ≡ None
  no_loss n = ap (loss_of n) calm

  server_sends_on : (qs ps : List Packet) (w : World) → IsOn ps w.to_client → IsOn (ps ++ qs) (all_sent_by k Server qs w).to_client
  server_sends_on [] ps w on = subst (λ xs. IsOn xs w.to_client) (sym (append-nil ps)) on
  server_sends_on (q ∷ qs) ps w on =
      subst (λ xs. IsOn xs (all_sent_by k Server qs (sent_by k Server w q)).to_client) (append_assoc ps (q ∷ []) qs)
      (server_sends_on qs (ps ++ q ∷ []) (sent_by k Server w q)
      (put_on ps q w.to_client (loss_of (length w.numbered + 1) k.losses) (no_loss (length w.numbered + 1)) on))

  client_sends_on : (qs ps : List Packet) (w : World) → IsOn ps w.to_server → IsOn (ps ++ qs) (all_sent_by k Client qs w).to_server
  client_sends_on [] ps w on = subst (λ xs. IsOn xs w.to_server) (sym (append-nil ps)) on
  client_sends_on (q ∷ qs) ps w on =
      subst (λ xs. IsOn xs (all_sent_by k Client qs (sent_by k Client w q)).to_server) (append_assoc ps (q ∷ []) qs)
      (client_sends_on qs (ps ++ q ∷ []) (sent_by k Client w q)
      (put_on ps q w.to_server (loss_of (length w.numbered + 1) k.losses) (no_loss (length w.numbered + 1)) on))

  server_ordered : (a b : List Packet) (v : World) (after : List Entry) → IsPrefix v.server after → IsOrdered k a b v → IsOrdered k a b (with_server k v after)
  server_ordered a b v after begin o =
      let more : List Packet = flushed_since k.server v.server after in
      record {
        up = o.up;
        down = o.down ++ more;
        to_server = subst (IsOn o.up) (sym (server_keeps k (λ x. x.to_server) (λ x p. refl) v after)) o.to_server;
        to_client = server_sends_on more o.down (record v { server = after }) o.to_client;
        sent_up = o.sent_up ∙ ap (packets_flushed k.client) (sym (server_keeps k (λ x. x.client) (λ x p. refl) v after));
        sent_down =
            sym (append_assoc b o.down more)
            ∙ (ap (λ front. front ++ more) o.sent_down
            ∙ (sym (flushed_parts k.server v.server after begin) ∙ ap (packets_flushed k.server) (sym (server_keeps k (λ x. x.server) (λ x p. refl) v after))));
        fed_server = subst IsBetweenFrames (sym (server_keeps k (λ x. x.fed_server) (λ x p. refl) v after)) o.fed_server;
        fed_client = subst IsBetweenFrames (sym (server_keeps k (λ x. x.fed_client) (λ x p. refl) v after)) o.fed_client;
      }

  client_ordered : (a b : List Packet) (v : World) (after : List Entry) → IsPrefix v.client after → IsOrdered k a b v → IsOrdered k a b (with_client k v after)
  client_ordered a b v after begin o =
      let more : List Packet = flushed_since k.client v.client after in
      record {
        up = o.up ++ more;
        down = o.down;
        to_server = client_sends_on more o.up (record v { client = after }) o.to_server;
        to_client = subst (IsOn o.down) (sym (client_keeps k (λ x. x.to_client) (λ x p. refl) v after)) o.to_client;
        sent_up =
            sym (append_assoc a o.up more)
            ∙ (ap (λ front. front ++ more) o.sent_up
            ∙ (sym (flushed_parts k.client v.client after begin) ∙ ap (packets_flushed k.client) (sym (client_keeps k (λ x. x.client) (λ x p. refl) v after))));
        sent_down = o.sent_down ∙ ap (packets_flushed k.server) (sym (client_keeps k (λ x. x.server) (λ x p. refl) v after));
        fed_server = subst IsBetweenFrames (sym (client_keeps k (λ x. x.fed_server) (λ x p. refl) v after)) o.fed_server;
        fed_client = subst IsBetweenFrames (sym (client_keeps k (λ x. x.fed_client) (λ x p. refl) v after)) o.fed_client;
      }

  finished_ordered : (a b : List Packet) (v : World) → IsOrdered k a b v → IsOrdered k a b (finished k v)
  finished_ordered a b v o = record {
    up = o.up;
    down = o.down;
    to_server = up_behind k (IsOn o.up) (released_on o.up) v o.to_server;
    to_client = down_behind k (IsOn o.down) (released_on o.down) v o.to_client;
    sent_up = o.sent_up ∙ ap (packets_flushed k.client) (sym (finished_client k v));
    sent_down = o.sent_down ∙ ap (packets_flushed k.server) (sym (finished_server k v));
    fed_server = subst IsBetweenFrames (sym (finish_keeps k (λ x. x.fed_server) (λ x lines. refl) (λ x a b. refl) v)) o.fed_server;
    fed_client = subst IsBetweenFrames (sym (finish_keeps k (λ x. x.fed_client) (λ x lines. refl) (λ x a b. refl) v)) o.fed_client;
  }

  -- from one world to another, where what is flushed by then fits
  record Keeps (w now : World) : Type 0 where
    on : GoesOn w now
    ordered : Fits k now → Ordered w → Ordered now

  fits_before : (w now : World) → GoesOn w now → Fits k now → Fits k w
  fits_before w now on fits = record {
    up = flushed_before (IsSendable Server) k.client w.client now.client on.client fits.up;
    down = flushed_before (IsSendable Client) k.server w.server now.server on.server fits.down;
  }

  -- the server has done its work over what arrived, and the turn ends
  server_worked : (w v : World) (ps : List Packet) (after : List Entry) (now : World) → GoesOnWith w.server ps after → now ≡ finished k (with_server k v after)
      → v.server ≡ w.server → v.client ≡ w.client → (Fits k w → Ordered w → IsOrdered k (arrivals w.server ++ ps) (arrivals w.client) v) → Keeps w now
  server_worked w v ps after now goes is server client came =
      let begin : IsPrefix w.server after = begins w.server ps after goes in
      let server_is : now.server ≡ after = ap (λ x. x.server) is ∙ (finished_server k (with_server k v after) ∙ server_keeps k (λ x. x.server) (λ x p. refl) v after) in
      let client_is : now.client ≡ w.client = ap (λ x. x.client) is ∙ (finished_client k (with_server k v after) ∙ (server_keeps k (λ x. x.client) (λ x p. refl) v after ∙ client)) in
      let on : GoesOn w now = record { server = on_to w.server after now.server begin server_is; client = ([], append-nil w.client ∙ sym client_is) } in
      record {
        on = on;
        ordered = λ fits ordered.
            subst (λ b. IsOrdered k (arrivals now.server) b now) (ap arrivals (sym client_is))
            (subst (λ a. IsOrdered k a (arrivals w.client) now) (sym goes.arrived ∙ ap arrivals (sym server_is))
            (subst (IsOrdered k (arrivals w.server ++ ps) (arrivals w.client)) (sym is)
            (finished_ordered (arrivals w.server ++ ps) (arrivals w.client) (with_server k v after)
            (server_ordered (arrivals w.server ++ ps) (arrivals w.client) v after (subst (λ h. IsPrefix h after) (sym server) begin)
            (came (fits_before w now on fits) ordered)))));
      }

  client_worked : (w v : World) (ps : List Packet) (after : List Entry) (now : World) → GoesOnWith w.client ps after → now ≡ finished k (with_client k v after)
      → v.server ≡ w.server → v.client ≡ w.client → (Fits k w → Ordered w → IsOrdered k (arrivals w.server) (arrivals w.client ++ ps) v) → Keeps w now
  client_worked w v ps after now goes is server client came =
      let begin : IsPrefix w.client after = begins w.client ps after goes in
      let client_is : now.client ≡ after = ap (λ x. x.client) is ∙ (finished_client k (with_client k v after) ∙ client_keeps k (λ x. x.client) (λ x p. refl) v after) in
      let server_is : now.server ≡ w.server = ap (λ x. x.server) is ∙ (finished_server k (with_client k v after) ∙ (client_keeps k (λ x. x.server) (λ x p. refl) v after ∙ server)) in
      let on : GoesOn w now = record { client = on_to w.client after now.client begin client_is; server = ([], append-nil w.server ∙ sym server_is) } in
      record {
        on = on;
        ordered = λ fits ordered.
            subst (λ a. IsOrdered k a (arrivals now.client) now) (ap arrivals (sym server_is))
            (subst (λ b. IsOrdered k (arrivals w.server) b now) (sym goes.arrived ∙ ap arrivals (sym client_is))
            (subst (IsOrdered k (arrivals w.server) (arrivals w.client ++ ps)) (sym is)
            (finished_ordered (arrivals w.server) (arrivals w.client ++ ps) (with_client k v after)
            (client_ordered (arrivals w.server) (arrivals w.client ++ ps) v after (subst (λ h. IsPrefix h after) (sym client) begin)
            (came (fits_before w now on fits) ordered)))));
      }

  -- the oldest frame of a link is that of the oldest packet on it
  record IsOldest (ps : List Packet) (l : Link) (frame : List ℕ) (rest : List (List ℕ)) : Type 0 where
    packet : Packet
    others : List Packet
    are : ps ≡ packet ∷ others
    is : frame ≡ frame_of packet
    left : IsOn others (record l { frames = rest })

  oldest_of : (ps : List Packet) (l : Link) (frame : List ℕ) (rest : List (List ℕ)) → l.frames ≡ frame ∷ rest → IsOn ps l → IsOldest ps l frame rest
  oldest_of [] l frame rest front on = absurd (no_frame (sym front ∙ on.frames))
    where
      no_frame : frame ∷ rest ≡ [] → ⊥
      no_frame is = cc
  oldest_of (p ∷ ps) l frame rest front on =
      let is : frame ∷ rest ≡ frame_of p ∷ map frame_of ps = sym front ∙ on.frames in
      record { packet = p; others = ps; are = refl; is = cc; left = record { frames = cc; none_back = on.none_back } }

  server_hears : (w now : World) (frame : List ℕ) (rest : List (List ℕ)) → w.to_server.frames ≡ frame ∷ rest → ServerHears k w frame rest now → Keeps w now
  server_hears w now frame rest front t =
      server_worked w (with_frame_at_server w frame rest) t.hears.packets t.after now (server_takes_goes k.rule k.server t.hears.packets w.server t.after t.hears.holds) t.is refl refl came
    where
      came : Fits k w → Ordered w → IsOrdered k (arrivals w.server ++ t.hears.packets) (arrivals w.client) (with_frame_at_server w frame rest)
      came fits o =
          let old = oldest_of o.up w.to_server frame rest front o.to_server in
          let sent : arrivals w.server ++ (old.packet ∷ old.others) ≡ packets_flushed k.client w.client = ap (λ ps. arrivals w.server ++ ps) (sym old.are) ∙ o.sent_up in
          let fit : IsSendable Server old.packet = (all_back (IsSendable Server) (arrivals w.server) (old.packet ∷ old.others) (subst (AllByRecursion (IsSendable Server)) (sym sent) fits.up)).0 in
          let heard : t.hears.packets ≡ old.packet ∷ [] = heard_front Server w.fed_server frame old.packet t.hears.packets fit o.fed_server old.is t.hears.heard in
          record {
            up = old.others;
            down = o.down;
            to_server = old.left;
            to_client = o.to_client;
            sent_up = ap (λ ps. (arrivals w.server ++ ps) ++ old.others) heard ∙ (append_assoc (arrivals w.server) (old.packet ∷ []) old.others ∙ sent);
            sent_down = o.sent_down;
            fed_server = closed_by_front Server w.fed_server frame old.packet fit old.is;
            fed_client = o.fed_client;
          }

  client_hears : (w now : World) (frame : List ℕ) (rest : List (List ℕ)) → w.to_client.frames ≡ frame ∷ rest → ClientHears k w frame rest now → Keeps w now
  client_hears w now frame rest front t =
      client_worked w (with_task t.task (with_frame_at_client w frame rest)) t.hears.packets t.after now
      (client_takes_goes k.client (moment w) t.hears.packets w.client (task_of w) t.after t.task t.hears.holds) t.is refl refl came
    where
      came : Fits k w → Ordered w → IsOrdered k (arrivals w.server) (arrivals w.client ++ t.hears.packets) (with_task t.task (with_frame_at_client w frame rest))
      came fits o =
          let old = oldest_of o.down w.to_client frame rest front o.to_client in
          let sent : arrivals w.client ++ (old.packet ∷ old.others) ≡ packets_flushed k.server w.server = ap (λ ps. arrivals w.client ++ ps) (sym old.are) ∙ o.sent_down in
          let fit : IsSendable Client old.packet = (all_back (IsSendable Client) (arrivals w.client) (old.packet ∷ old.others) (subst (AllByRecursion (IsSendable Client)) (sym sent) fits.down)).0 in
          let heard : t.hears.packets ≡ old.packet ∷ [] = heard_front Client w.fed_client frame old.packet t.hears.packets fit o.fed_client old.is t.hears.heard in
          record {
            up = o.up;
            down = old.others;
            to_server = o.to_server;
            to_client = old.left;
            sent_up = o.sent_up;
            sent_down = ap (λ ps. (arrivals w.client ++ ps) ++ old.others) heard ∙ (append_assoc (arrivals w.client) (old.packet ∷ []) old.others ∙ sent);
            fed_server = o.fed_server;
            fed_client = closed_by_front Client w.fed_client frame old.packet fit old.is;
          }

  -- nothing has arrived at the server, or at the client, and the world stands as it did
  none_up : (w v : World) → v.to_server ≡ w.to_server → v.to_client ≡ w.to_client → v.fed_server ≡ w.fed_server → v.fed_client ≡ w.fed_client → v.server ≡ w.server → v.client ≡ w.client
      → Ordered w → IsOrdered k (arrivals w.server ++ []) (arrivals w.client) v
  none_up w v a b c d e f o = record {
    up = o.up;
    down = o.down;
    to_server = subst (IsOn o.up) (sym a) o.to_server;
    to_client = subst (IsOn o.down) (sym b) o.to_client;
    sent_up = ap (λ ps. ps ++ o.up) (append-nil (arrivals w.server)) ∙ (o.sent_up ∙ ap (packets_flushed k.client) (sym f));
    sent_down = o.sent_down ∙ ap (packets_flushed k.server) (sym e);
    fed_server = subst IsBetweenFrames (sym c) o.fed_server;
    fed_client = subst IsBetweenFrames (sym d) o.fed_client;
  }

  none_down : (w v : World) → v.to_server ≡ w.to_server → v.to_client ≡ w.to_client → v.fed_server ≡ w.fed_server → v.fed_client ≡ w.fed_client → v.server ≡ w.server → v.client ≡ w.client
      → Ordered w → IsOrdered k (arrivals w.server) (arrivals w.client ++ []) v
  none_down w v a b c d e f o = record {
    up = o.up;
    down = o.down;
    to_server = subst (IsOn o.up) (sym a) o.to_server;
    to_client = subst (IsOn o.down) (sym b) o.to_client;
    sent_up = o.sent_up ∙ ap (packets_flushed k.client) (sym f);
    sent_down = ap (λ ps. ps ++ o.down) (append-nil (arrivals w.client)) ∙ (o.sent_down ∙ ap (packets_flushed k.server) (sym e));
    fed_server = subst IsBetweenFrames (sym c) o.fed_server;
    fed_client = subst IsBetweenFrames (sym d) o.fed_client;
  }

  asks : (w now : World) (command : Command) (rest : List Command) → Asks k w command rest now → Keeps w now
  asks w now command rest t =
      let s : Started = starts k w command in
      let added : List Entry = all_added s.adds w.client in
      client_worked w (with_task t.task (with_command w rest s)) [] t.after now
      (goes_then w.client added t.after [] [] (all_added_go s.adds w.client (starts_quiet k w command))
      (client_settles_goes k.client (moment w) added (task_under (Some s.under)) t.after t.task t.settles))
      t.is refl refl (λ fits o. none_down w (with_task t.task (with_command w rest s)) refl refl refl refl refl refl o)

  closes : (w now : World) (channel : ℕ) (rest : List Command) → Closes k w channel rest now → Keeps w now
  closes w now channel rest t =
      let s : Started = starts k w (Close channel) in
      server_worked w (with_command w rest s) [] t.after now (goes (ended_by_close k.server (server_deeds k w) channel) t.settles)
      t.is refl refl (λ fits o. none_up w (with_command w rest s) refl refl refl refl refl refl o)
    where
      goes : (ended : Option ℕ) → Settles k.rule k.server (closed_by channel ended w.server) t.after → GoesOnWith w.server [] t.after
      goes None settles = settles_goes k.rule k.server w.server t.after settles
      goes (Some count) settles = opened_goes k.rule k.server w.server run_seat (Closing channel) t.after settles

  cancels : (w now : World) (call : ℕ) → Cancels k w call now → Keeps w now
  cancels w now call t =
      client_worked w w [] t.after now (client_opened_goes k.client (moment w) w.client run_seat (Cancel call) None t.after None t.settles)
      t.is refl refl (λ fits o. none_down w w refl refl refl refl refl refl o)

  time_passes : (w now : World) → TimePasses k w now → Keeps w now
  time_passes w now t =
      let v : World = with_task t.task (later w) in
      let x : World = with_client k v t.client in
      let y : World = with_server k x t.server in
      let client_goes = client_settles_goes k.client (moment (later w)) w.client (task_of w) t.client t.task t.polls in
      let server_goes = opened_goes k.rule k.server w.server flush_seat (Tick (moment (later w))) t.server t.ticks in
      let server_is : now.server ≡ t.server = ap (λ z. z.server) t.is ∙ (finished_server k y ∙ server_keeps k (λ z. z.server) (λ z p. refl) x t.server) in
      let client_is : now.client ≡ t.client = ap (λ z. z.client) t.is ∙ (finished_client k y ∙ (server_keeps k (λ z. z.client) (λ z p. refl) x t.server ∙ client_keeps k (λ z. z.client) (λ z p. refl) v t.client)) in
      let x_server : x.server ≡ w.server = client_keeps k (λ z. z.server) (λ z p. refl) v t.client in
      let a : List Packet = arrivals w.server ++ [] in
      let b : List Packet = arrivals w.client in
      record {
        on = record {
          server = on_to w.server t.server now.server (begins w.server [] t.server server_goes) server_is;
          client = on_to w.client t.client now.client (begins w.client [] t.client client_goes) client_is;
        };
        ordered = λ fits o.
            subst (λ q. IsOrdered k (arrivals now.server) q now) (sym (append-nil b) ∙ (sym client_goes.arrived ∙ ap arrivals (sym client_is)))
            (subst (λ q. IsOrdered k q b now) (sym server_goes.arrived ∙ ap arrivals (sym server_is))
            (subst (IsOrdered k a b) (sym t.is)
            (finished_ordered a b y
            (server_ordered a b x t.server (subst (λ h. IsPrefix h t.server) (sym x_server) (begins w.server [] t.server server_goes))
            (client_ordered a b v t.client (begins w.client [] t.client client_goes) (none_up w v refl refl refl refl refl refl o))))));
      }

  starts_keep : (w now : World) (command : Command) (rest : List Command) → StartTurn k w command rest now → Keeps w now
  starts_keep w now (Close channel) rest t = closes w now channel rest t
  starts_keep w now (Read resource offset) rest t = asks w now (Read resource offset) rest t
  starts_keep w now (Write resource offset) rest t = asks w now (Write resource offset) rest t
  starts_keep w now (Echo bytes) rest t = asks w now (Echo bytes) rest t
  starts_keep w now (Count n) rest t = asks w now (Count n) rest t
  starts_keep w now (Sum bytes) rest t = asks w now (Sum bytes) rest t
  starts_keep w now (Chat bytes) rest t = asks w now (Chat bytes) rest t

  turn_keeps : (w now : World) → Turn k w now → Keeps w now
  turn_keeps w now turn = by_kind w.to_server.frames refl w.to_client.frames refl w.under w.coming turn
    where
      by_kind : (ups : List (List ℕ)) → w.to_server.frames ≡ ups → (downs : List (List ℕ)) → w.to_client.frames ≡ downs → (under : Option Under) (coming : List Command)
          → TurnOf k w (kind_by ups downs under coming) now → Keeps w now
      by_kind (frame ∷ rest) front downs there under coming t = server_hears w now frame rest front t
      by_kind [] none (frame ∷ rest) front under coming t = client_hears w now frame rest front t
      by_kind [] none [] nothing None [] t = absurd t
      by_kind [] none [] nothing None (command ∷ rest) t = starts_keep w now command rest t
      by_kind [] none [] nothing (Some (transferring task)) coming t = time_passes w now t
      by_kind [] none [] nothing (Some (lacking resource)) coming t = time_passes w now t
      by_kind [] none [] nothing (Some (calling plain call)) coming t = cancels w now call t
      by_kind [] none [] nothing (Some (closing channel ended)) coming t = time_passes w now t

  turns_keep : (n : ℕ) (w now : World) → Turns k n w now → Keeps w now
  turns_keep zero w now same = subst (Keeps w) same (record { on = record { server = ([], append-nil w.server); client = ([], append-nil w.client) }; ordered = λ fits o. o })
  turns_keep (suc n) w now turns =
      let first : Keeps w turns.0 = turn_keeps w turns.0 turns.1.turn in
      let more : Keeps turns.0 now = turns_keep n turns.0 now turns.2 in
      record { on = then_on w turns.0 now first.on more.on; ordered = λ fits o. more.ordered fits (first.ordered (fits_before turns.0 now more.on fits) o) }

  first_ordered : (commands : List Command) → Ordered (first_world commands)
  unfolding open_text texts_behind_flags
  first_ordered commands = record {
    up = [];
    down = [];
    to_server = record { frames = refl; none_back = refl };
    to_client = record { frames = refl; none_back = refl };
    sent_up = refl;
    sent_down = refl;
    fed_server = inl refl;
    fed_client = inl refl;
  }

  -- where nothing is left but the end, nothing is on the link
  none_left : (ps : List Packet) (l : Link) → l.frames ≡ [] → IsOn ps l → ps ≡ []
  none_left [] l empty on = refl
  none_left (p ∷ ps) l empty on = absurd (one_frame (sym empty ∙ on.frames))
    where
      one_frame : [] ≡ frame_of p ∷ map frame_of ps → ⊥
      one_frame is = cc

  record IsStill (w : World) : Type 0 where
    up : w.to_server.frames ≡ []
    down : w.to_client.frames ≡ []

  still_at_end : (w : World) → next_kind w ≡ ending → IsStill w
  still_at_end w last = at w.to_server.frames refl w.to_client.frames refl w.under w.coming last
    where
      at : (ups : List (List ℕ)) → w.to_server.frames ≡ ups → (downs : List (List ℕ)) → w.to_client.frames ≡ downs → (under : Option Under) (coming : List Command)
          → kind_by ups downs under coming ≡ ending → IsStill w
      at (frame ∷ rest) front downs there under coming is = absurd cc
      at [] none (frame ∷ rest) front under coming is = absurd cc
      at [] none [] nothing under coming is = record { up = none; down = nothing }

  all_arrived : (w : World) → IsStill w → Ordered w → HasAllArrived k w
  all_arrived w still o = record {
    server = sym (append-nil (arrivals w.server)) ∙ (ap (λ ps. arrivals w.server ++ ps) (sym (none_left o.up w.to_server still.up o.to_server)) ∙ o.sent_up);
    client = sym (append-nil (arrivals w.client)) ∙ (ap (λ ps. arrivals w.client ++ ps) (sym (none_left o.down w.to_client still.down o.to_client)) ∙ o.sent_down);
  }

pub nothing_is_lost : NothingIsLost
nothing_is_lost k commands now calm run fits =
    let before : World = run.before in
    let on : GoesOn before now = ends_on k before now run.ends in
    let here : Fits k before = record {
      up = flushed_before (IsSendable Server) k.client before.client now.client on.client fits.client;
      down = flushed_before (IsSendable Client) k.server before.server now.server on.server fits.server;
    } in
    all_arrived k calm before (still_at_end k calm before run.ends.is_last)
    ((turns_keep k calm run.count (first_world commands) before run.turns).ordered here (first_ordered k calm commands))
