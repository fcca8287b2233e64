-- What an entry does where it concerns only calls whose names pass a test.
use Rattle.std.proofs.Common.{◌≡◌, ℕ, Bool, true, false, not, ◌&&◌, ◌||◌, List, [], ◌∷◌, flat_map, Option, Some, None, is_some, if◌then◌else◌, refl, ap, sym, ◌∙◌, arith}
use Rattle.std.proofs.lemmas.Option.{slice_get_within}
use Rattle.std.specs.List.{AllByRecursion}
use Rattle.rpc_channel.specs.Rising.{has_id}
use Rattle.rpc_ids.specs.declared.method.MethodRef.{MethodRef}
use Rattle.rpc_ids.specs.declared.method.Kind.{Kind}
use Rattle.rpc_ids.specs.declared.method.Role.{Role}
use Rattle.rpc_ids.specs.declared.method.Role.TheVariants.{Server, Client}
use Rattle.rpc_ids.specs.declared.status.Status.{Status}
use Rattle.rpc_ids.specs.declared.status.Status.TheVariants.{Okay, Cancelled}
use Rattle.rpc_ids.specs.Status.{status_of}
use Rattle.rpc_packet.specs.declared.call_name.CallName.{CallName}
use Rattle.rpc_packet.specs.declared.owned.Packet.{Packet}
use Rattle.rpc_packet.specs.declared.packet_type.PacketType.{PacketType}
use Rattle.rpc_packet.specs.declared.packet_type.PacketType.TheVariants.{Request, Response, ClientStream, ClientError, ServerError, ServerStream, Completion}
use Rattle.rpc_handlers.specs.declared.answer.Answer.{Answer}
use Rattle.rpc_handlers.specs.declared.answer.End.{End}
use Rattle.rpc_handlers.specs.declared.answer.Out.{Out}
use Rattle.rpc_handlers.specs.declared.answer.Out.TheVariants.{Say as Message, Begin, Append, Commit, Leave}
use Rattle.rpc_handlers.specs.declared.event.Event.TheVariants.{Ended}
use Rattle.rpc_handlers.specs.declared.event.Memo.{Memo}
use Rattle.rpc_journal.specs.declared.entry.EntryKind.{EntryKind}
use Rattle.rpc_journal.specs.declared.entry.EntryKind.TheVariants.{Arrive, Invoke, Say, Done, Start, Finish, Replace, Cancel, Tick, Flush, EndIn, Halt, Close}
use Rattle.rpc_journal.specs.declared.item.Act.{Act}
use Rattle.rpc_journal.specs.declared.item.Act.TheVariants.{Send, Keep, LeaveCall}
use Rattle.rpc_journal.specs.declared.item.Item.{Item}
use Rattle.rpc_journal.specs.declared.setting.Setting.{Setting}
use Rattle.rpc_journal.specs.Calls.{call_at, call_count, calls, has_end, is_cancelled, live_call, runner_of}
use Rattle.rpc_journal.specs.ClientTable.{call_row, live_row, no_call_row}
use Rattle.rpc_journal.specs.Effect.{Deed, Effect, Opening}
use Rattle.rpc_journal.specs.Entries.{answer_item, arrive_row, cancel_effect, effect_of, end_effect, error_type, finish_effect, invoke_effect, is_heard, leave_item, messages_go, out_item, row_by, with_call}
use Rattle.rpc_journal.specs.Items.{is_done}
use Rattle.rpc_journal.specs.Kinds.{is_okay, is_unary, or_else, streams_down, streams_up}
use Rattle.rpc_journal.specs.Queues.{is_completed}
use Rattle.rpc_journal.specs.Rows.{Row, both_effects, channels_in, method_named, no_effect, packet_item, says_item, status_packet}
use Rattle.rpc_journal.specs.ServerTable.{known_row, method_row, unknown_row}
use Rattle.history_laws.proofs.messages.Arrived.{live_named}
use Rattle.history_laws.proofs.messages.Members.{all_join}

module _ (such : CallName → Bool) where
  -- the call, where it is there, has such a name
  abbrev pub IsSuch : List Deed → ℕ → Type 0
  IsSuch ds c = (o : Opening) → call_at ds c ≡ Some o → such o.name ≡ true

  abbrev pub MayBeSuch : List Deed → Option ℕ → Type 0
  MayBeSuch ds None = Unit {0}
  MayBeSuch ds (Some c) = IsSuch ds c

  abbrev pub OpensSuch : Option Opening → Type 0
  OpensSuch None = Unit {0}
  OpensSuch (Some o) = such o.name ≡ true

  abbrev pub SendsSuch : Act → Type 0
  SendsSuch (Send p) = such p.name ≡ true
  SendsSuch (Keep out) = Unit {0}
  SendsSuch LeaveCall = Unit {0}

  -- an item of such a call or of none, with such a packet or with none
  abbrev pub SaysSuch : List Deed → Item → Type 0
  SaysSuch ds item = MayBeSuch ds item.call × SendsSuch item.act

  -- all that is done is done to such calls
  pub record Concerns (ds : List Deed) (e : Effect) : Type 0 where
    pub opens : OpensSuch e.opens
    pub ends : AllByRecursion (λ x. IsSuch ds x.0) e.ends
    pub drops : AllByRecursion (IsSuch ds) e.drops
    pub puts : AllByRecursion (λ x. IsSuch ds x.0) e.puts
    pub says : AllByRecursion (SaysSuch ds) e.says

  nothing : (ds : List Deed) → Concerns ds no_effect
  nothing ds = record { opens = tt; ends = tt; drops = tt; puts = tt; says = tt }

  says_such : (ds : List Deed) (items : List Item) → AllByRecursion (SaysSuch ds) items → Concerns ds (record no_effect { says = items })
  says_such ds items all = record { opens = tt; ends = tt; drops = tt; puts = tt; says = all }

  if_row : (ds : List Deed) (b : Bool) (x y : Row) → Concerns ds x.does → Concerns ds y.does → Concerns ds (if b then x else y).does
  if_row ds true x y first second = first
  if_row ds false x y first second = second

  if_effect : (ds : List Deed) (b : Bool) (x y : Effect) → Concerns ds x → Concerns ds y → Concerns ds (if b then x else y)
  if_effect ds true x y first second = first
  if_effect ds false x y first second = second

  opens_either : (a b : Option Opening) → OpensSuch a → OpensSuch b → OpensSuch (or_else a b)
  opens_either None b first second = second
  opens_either (Some o) b first second = first

  both : (ds : List Deed) (a b : Effect) → Concerns ds a → Concerns ds b → Concerns ds (both_effects a b)
  both ds a b first second = record {
    opens = opens_either a.opens b.opens first.opens second.opens;
    ends = all_join (λ x. IsSuch ds x.0) a.ends b.ends first.ends second.ends;
    drops = all_join (IsSuch ds) a.drops b.drops first.drops second.drops;
    puts = all_join (λ x. IsSuch ds x.0) a.puts b.puts first.puts second.puts;
    says = all_join (SaysSuch ds) a.says b.says first.says second.says;
  }

  -- the next call isn't there yet
  pub next_such : (ds : List Deed) → IsSuch ds (call_count ds)
  next_such ds o there = absurd (omega (arith, slice_get_within (calls ds) (call_count ds) o there))

  -- a packet with such a name
  module _ (ds : List Deed) (p : Packet) (is : such p.name ≡ true) where
    live_such : MayBeSuch ds (live_call ds p.name)
    live_such = at (live_call ds p.name) refl
      where
        at : (l : Option ℕ) → live_call ds p.name ≡ l → MayBeSuch ds l
        at None e = tt
        at (Some c) e = λ o there.
            let n = live_named ds p.name c e in
            let same : n.opening ≡ o = (let both : Some n.opening ≡ Some o = sym n.there ∙ there in cc) in
            ap (λ (x : Opening). such x.name) (sym same) ∙ (ap such n.name_is ∙ is)

    unknown_such : (ptype : PacketType) (s : Status) → Concerns ds (unknown_row ptype p s).does
    unknown_such Request s = says_such ds _ ((tt, is), tt)
    unknown_such Response s = says_such ds _ ((tt, is), tt)
    unknown_such ClientStream s = says_such ds _ ((tt, is), tt)
    unknown_such ClientError s = nothing ds
    unknown_such ServerError s = says_such ds _ ((tt, is), tt)
    unknown_such ServerStream s = says_such ds _ ((tt, is), tt)
    unknown_such Completion s = says_such ds _ ((tt, is), tt)

    known_such : (ptype : PacketType) (m : MethodRef) (l : Option ℕ) → MayBeSuch ds l → Concerns ds (known_row ptype p m ds l).does
    known_such Request m None live = record { opens = is; ends = tt; drops = tt; puts = (next_such ds, tt); says = tt }
    known_such Request m (Some c) live = record { opens = is; ends = (live, tt); drops = (live, tt); puts = (live, (next_such ds, tt)); says = tt }
    known_such Response m l live = nothing ds
    known_such ClientStream m None live = says_such ds _ ((tt, is), tt)
    known_such ClientStream m (Some c) live =
        if_row ds (not (streams_up m.kind)) _ _ (says_such ds _ ((tt, is), tt))
        (if_row ds (is_completed ds c) _ _ (says_such ds _ ((tt, is), tt)) (record { opens = tt; ends = tt; drops = tt; puts = (live, tt); says = tt }))
    known_such ClientError m None live = nothing ds
    known_such ClientError m (Some c) live = record { opens = tt; ends = (live, tt); drops = (live, tt); puts = (live, tt); says = tt }
    known_such ServerError m l live = nothing ds
    known_such ServerStream m l live = nothing ds
    known_such Completion m None live = says_such ds _ ((tt, is), tt)
    known_such Completion m (Some c) live =
        if_row ds (is_unary m.kind || is_completed ds c) _ _ (nothing ds) (record { opens = tt; ends = tt; drops = tt; puts = (live, tt); says = tt })

    method_such : (o : Option MethodRef) → Concerns ds (method_row p ds o).does
    method_such None = unknown_such p.ptype _
    method_such (Some m) = known_such p.ptype m (live_call ds p.name) live_such

    ends_such : (c : ℕ) (s : Status) → IsSuch ds c → (items : List Item) → AllByRecursion (SaysSuch ds) items
        → Concerns ds (record { opens = None; ends = (c, s) ∷ []; drops = []; puts = (c, Ended s) ∷ []; says = items })
    ends_such c s live items all = record { opens = tt; ends = (live, tt); drops = tt; puts = (live, tt); says = all }

    live_row_such : (c : ℕ) (ptype : PacketType) (m : MethodRef) → IsSuch ds c → Concerns ds (live_row ptype p m c).does
    live_row_such c Request m live = nothing ds
    live_row_such c Response m live =
        if_row ds (is_okay (status_of p.status) && not (streams_down m.kind)) _ _
        (record { opens = tt; ends = (live, tt); drops = tt; puts = (live, (live, tt)); says = tt }) (ends_such c (status_of p.status) live [] tt)
    live_row_such c ClientStream m live = nothing ds
    live_row_such c ClientError m live = nothing ds
    live_row_such c ServerError m live = ends_such c (status_of p.status) live [] tt
    live_row_such c ServerStream m live =
        if_row ds (streams_down m.kind) _ _ (record { opens = tt; ends = tt; drops = tt; puts = (live, tt); says = tt }) (ends_such c _ live _ ((live, is), tt))
    live_row_such c Completion m live = nothing ds

    no_call_such : (ptype : PacketType) → Concerns ds (no_call_row ptype p).does
    no_call_such Request = nothing ds
    no_call_such Response = nothing ds
    no_call_such ClientStream = nothing ds
    no_call_such ClientError = nothing ds
    no_call_such ServerError = nothing ds
    no_call_such ServerStream = says_such ds _ ((tt, is), tt)
    no_call_such Completion = nothing ds

    call_such : (o : Option MethodRef) (l : Option ℕ) → MayBeSuch ds l → Concerns ds (call_row p o l).does
    call_such None l live = no_call_such p.ptype
    call_such (Some m) None live = no_call_such p.ptype
    call_such (Some m) (Some c) live = live_row_such c p.ptype m live

    module _ (set : Setting) where
      row_such : (role : Role) → Concerns ds (row_by role set ds p).does
      row_such Server = if_row ds (has_id (channels_in set ds) p.name.channel) _ _ (method_such (method_named set p.name)) (unknown_such p.ptype _)
      row_such Client =
          if_row ds (has_id (channels_in set ds) p.name.channel) _ _ (call_such (method_named set p.name) (live_call ds p.name) live_such) (nothing ds)

      arrive_such : Concerns ds (arrive_row set ds p).does
      unfolding arrive_row
      arrive_such = row_such set.role

    invoke_such : (m : Memo) (o : Option MethodRef) → Concerns ds (invoke_effect ds p m o)
    invoke_such m None = nothing ds
    invoke_such m (Some method) = record { opens = is; ends = tt; drops = tt; puts = tt; says = ((next_such ds, is), tt) }

  -- such a call
  module _ (ds : List Deed) (c : ℕ) (is : IsSuch ds c) where
    out_such : (role : Role) (name : CallName) → such name ≡ true → (out : Out) → SaysSuch ds (out_item role c name out)
    out_such role name own (Message payload) = (is, own)
    out_such role name own (Begin session resource offset) = (is, tt)
    out_such role name own (Append session bytes) = (is, tt)
    out_such role name own (Commit session) = (is, tt)
    out_such role name own (Leave session) = (is, tt)

    answer_such : (role : Role) (name : CallName) (says : Bool) → such name ≡ true → (out : Out) → AllByRecursion (SaysSuch ds) (answer_item role c name says out)
    answer_such role name true own (Message payload) = ((is, own), tt)
    answer_such role name false own (Message payload) = tt
    answer_such role name says own (Begin session resource offset) = ((is, tt), tt)
    answer_such role name says own (Append session bytes) = ((is, tt), tt)
    answer_such role name says own (Commit session) = ((is, tt), tt)
    answer_such role name says own (Leave session) = ((is, tt), tt)

    answers_such : (role : Role) (name : CallName) (says : Bool) → such name ≡ true → (outs : List Out)
        → AllByRecursion (SaysSuch ds) (flat_map (answer_item role c name says) outs)
    answers_such role name says own [] = tt
    answers_such role name says own (out ∷ outs) =
        all_join (SaysSuch ds) (answer_item role c name says out) (flat_map (answer_item role c name says) outs)
        (answer_such role name says own out) (answers_such role name says own outs)

    end_such : (role : Role) (name : CallName) (kind : Kind) (done : Bool) (end : Option End) → such name ≡ true → Concerns ds (end_effect role c name kind done end)
    end_such role name kind done None own = nothing ds
    end_such Server name kind done (Some end) own = record { opens = tt; ends = (is, tt); drops = (is, tt); puts = tt; says = ((is, own), tt) }
    end_such Client name kind done (Some end) own =
        if_effect ds (is_okay end.status) _ _ (if_effect ds (is_unary kind || done) _ _ (nothing ds) (says_such ds _ ((is, own), tt)))
        (record { opens = tt; ends = (is, tt); drops = (is, tt); puts = tt; says = ((is, own), tt) })

    module _ (set : Setting) where
      finish_such : (a : Answer) (o : Option Opening) → call_at ds c ≡ o → Concerns ds (finish_effect set ds c a o)
      finish_such a None there = nothing ds
      finish_such a (Some o) there =
          if_effect ds (is_cancelled ds c) _ _ (says_such ds _ ((is, tt), tt))
          (both ds _ _ (says_such ds _ (answers_such set.role o.name (messages_go set.role o.method.kind (is_heard ds c) (is_done ds c)) (is o there) a.items))
          (if_effect ds (is_heard ds c) _ _ (end_such set.role o.name o.method.kind (is_done ds c) a.end (is o there)) (nothing ds)))

      cancel_such : (o : Option Opening) → call_at ds c ≡ o → Concerns ds (cancel_effect set ds c o)
      cancel_such None there = nothing ds
      cancel_such (Some o) there = record {
        opens = tt;
        ends = ends (has_end ds c);
        drops = (is, tt);
        puts = tt;
        says = all_join (SaysSuch ds) (if has_end ds c then [] else packet_item c (status_packet (error_type set.role) o.name Cancelled) ∷ []) (if is_some (runner_of ds c) then [] else leave_item c ∷ [])
            (told (has_end ds c)) (left (is_some (runner_of ds c)));
      }
        where
          ends : (b : Bool) → AllByRecursion (λ (x : ℕ × Status). IsSuch ds x.0) (if b then [] else (c, Cancelled) ∷ [])
          ends true = tt
          ends false = (is, tt)

          told : (b : Bool) → AllByRecursion (SaysSuch ds) (if b then [] else packet_item c (status_packet (error_type set.role) o.name Cancelled) ∷ [])
          told true = tt
          told false = ((is, is o there), tt)

          left : (b : Bool) → AllByRecursion (SaysSuch ds) (if b then [] else leave_item c ∷ [])
          left true = tt
          left false = ((is, tt), tt)

      -- one item of the call
      call_says : (item : Opening → Item) → ((o : Opening) → call_at ds c ≡ Some o → SaysSuch ds (item o)) → (o : Option Opening) → call_at ds c ≡ o
          → Concerns ds (with_call o (λ x. says_item (item x)))
      call_says item each None there = nothing ds
      call_says item each (Some o) there = says_such ds _ (each o there, tt)

  -- an entry of such a call, or with such a packet
  abbrev pub IsOfSuch : List Deed → EntryKind → Type 0
  IsOfSuch ds (Arrive p) = such p.name ≡ true
  IsOfSuch ds (Invoke p m) = such p.name ≡ true
  IsOfSuch ds (Say c out) = IsSuch ds c
  IsOfSuch ds (Done c) = IsSuch ds c
  IsOfSuch ds (Start c) = IsSuch ds c
  IsOfSuch ds (Finish c a) = IsSuch ds c
  IsOfSuch ds (Cancel c) = IsSuch ds c
  IsOfSuch ds Flush = Unit {0}
  IsOfSuch ds _ = ⊥

  pub entry_concerns : (set : Setting) (ds : List Deed) (kind : EntryKind) → IsOfSuch ds kind → Concerns ds (effect_of set ds kind)
  entry_concerns set ds (Arrive p) is = arrive_such ds p is set
  entry_concerns set ds (Invoke p m) is = invoke_such ds p is m (method_named set p.name)
  entry_concerns set ds (Say c out) is = call_says ds c is set (λ o. out_item set.role c o.name out) (λ o there. out_such ds c is set.role o.name (is o there) out) (call_at ds c) refl
  entry_concerns set ds (Done c) is = call_says ds c is set (λ o. packet_item c (status_packet Completion o.name Okay)) (λ o there. (is, is o there)) (call_at ds c) refl
  entry_concerns set ds (Start c) is = nothing ds
  entry_concerns set ds (Finish c a) is = finish_such ds c is set a (call_at ds c) refl
  entry_concerns set ds (Cancel c) is = cancel_such ds c is set (call_at ds c) refl
  entry_concerns set ds Flush is = nothing ds
  entry_concerns set ds (Replace c m) is = absurd is
  entry_concerns set ds (Tick t) is = absurd is
  entry_concerns set ds EndIn is = absurd is
  entry_concerns set ds (Halt why) is = absurd is
  entry_concerns set ds (Close channel) is = absurd is
