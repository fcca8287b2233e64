-- What the driver has made.
use Rattle.std.proofs.Common.{◌≡◌, ◌⊎◌, ℕ, Bool, true, false, if◌then◌else◌, List, [], ◌∷◌, ◌++◌, take, Option, refl, sym, subst, inl, inr, arith}
use Rattle.std.proofs.lemmas.List.{append-nil}
use Rattle.std.specs.Io.KnownBytes.{Appends}
use Rattle.std.proofs.KnownBytes.{Appends-nil}
use Rattle.link_io.specs.Causes.{Rose}
use Rattle.link_io.specs.Device.{AppendsSome}
use Rattle.link_io.specs.Stored.{Stored}
use Rattle.link_io.specs.declared.why.Why.{Why}
use Rattle.rpc_journal.specs.declared.entry.Entry.{Entry}
use Rattle.rpc_journal.specs.declared.entry.EntryKind.TheVariants.{Halt}
use Rattle.rpc_journal.specs.declared.item.Item.{Item}
use Rattle.rpc_journal.specs.History.{entry_by}
use Rattle.rpc_shared.specs.session.Crew.{Lock, Seat}
use Rattle.rpc_shared.specs.session.Ring.{HaltsFor}
use Rattle.rpc_shared.specs.session.Sessions.{wire}
use Rattle.rpc_shared.proofs.session.ReaderLemmas.{take_begins}
use Rattle.rpc_shared.proofs.session.WriterLemmas.{holds_none}
use Rattle.live_client.specs.Driving.{Calm, Drives, FlushFails, Flushed, FlushesMore, TakesItem, TakesNone, is_flushing}
use Rattle.live_client.proofs.StepsOf.{halts_halt}

no_bytes : (b : Bool) → (if b then [] else wire []) ≡ []
no_bytes true = refl
no_bytes false = refl

pub flushes_none : (r : Lock) (c : ℕ) (p q : Seat) (finished : Bool) (w : Option (List ℕ)) (d : Option Stored) → TakesNone r c p q → (made : List Item) × Flushed finished w w d d made × FlushesMore r c made p q
flushes_none r c p q finished w d none = (
  [],
  record { written = subst (Appends w w) (sym (no_bytes finished)) (Appends-nil w); stored = holds_none d },
  λ watches opening events outs items d. subst (λ is. Drives watches opening r c events outs is q) (sym (append-nil items)) (none.calm.drives watches opening events outs items d),
)

pub flush_failed : (r : Lock) (c : ℕ) (item : Item) (p m q : Seat) (w w' : Option (List ℕ)) (d d' : Option Stored) → TakesItem r c item p m → Calm r c is_flushing m q → AppendsSome w w' (wire (item ∷ [])) → d' ≡ d → FlushFails r c w w' d d' p q
flush_failed r c item p m q w w' d d' takes calm begun same = record {
  next = item ∷ [];
  part = take begun.0 (wire (item ∷ []));
  one = omega arith;
  begun = take_begins begun.0 (wire (item ∷ []));
  written = begun.2;
  stored = same;
  flushes = λ watches opening events outs items d. calm.drives watches opening events outs (items ++ item ∷ []) (takes.more watches opening events outs items d);
}

pub sink_rose : (why reason : Why) (k before now : ℕ) (old mid new : List Entry) → (HaltsFor reason mid → HaltsFor reason old) → (new ≡ mid) ⊎ (new ≡ mid ++ entry_by k (Halt why) ∷ []) → (why ≡ reason → Rose before now)
    → HaltsFor reason new → HaltsFor reason old ⊎ Rose before now
sink_rose why reason k before now old mid new past is rose halts = at (halts_halt why reason k mid new is halts)
  where
    at : HaltsFor reason mid ⊎ (why ≡ reason) → HaltsFor reason old ⊎ Rose before now
    at (inl halts) = inl (past halts)
    at (inr same) = inr (rose same)
