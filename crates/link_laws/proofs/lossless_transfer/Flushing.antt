-- What goes out of an end where a session spoke.
use Rattle.std.proofs.Common.{◌≡◌, ℕ, Bool, true, false, ◌&&◌, ◌||◌, ◌==◌, List, [], ◌∷◌, ◌++◌, map, flat_map, refl, ap, ◌∙◌}
use Rattle.std.proofs.lemmas.List.Folds.{list_any-append}
use Rattle.std.specs.List.{list_any}
use Rattle.rpc_ids.specs.declared.method.Kind.{Kind}
use Rattle.rpc_ids.specs.declared.method.Role.{Role}
use Rattle.rpc_ids.specs.declared.method.Role.TheVariants.{Server, Client}
use Rattle.rpc_packet.specs.declared.call_name.CallName.{CallName}
use Rattle.rpc_packet.specs.declared.owned.Packet.{Packet}
use Rattle.rpc_packet.specs.declared.packet_type.PacketType.TheVariants.{ClientStream, ServerStream}
use Rattle.rpc_handlers.specs.declared.answer.Out.{Out}
use Rattle.rpc_journal.specs.declared.item.Item.{Item}
use Rattle.rpc_journal.specs.declared.setting.Setting.{Setting}
use Rattle.rpc_journal.specs.Effect.{Deed, Opening}
use Rattle.rpc_journal.specs.Entries.{answer_item, messages_go, out_item}
use Rattle.rpc_journal.specs.Items.{is_done, is_for, packets_of, sends_completion}
use Rattle.rpc_journal.specs.Kinds.{streams_down}
use Rattle.history_laws.specs.rounds.Streams.{items_of}
use Rattle.rpc_handlers.specs.declared.answer.Answer.{Answer}
use Rattle.transfer_words.specs.Saying.{Saying, says, begins, appends, commits, leaves, outs_of}
use Rattle.transfer_laws.specs.pairs.Pair.{words_of}
use Rattle.link_laws.specs.lossless_transfer.Shows.{packet_saying}

-- the messages of a client that spoke so are those that say its words
pub client_words : (c session : ℕ) (name : CallName) (ss : List Saying)
    → packets_of (map (out_item Client c name) (outs_of session ss)) ≡ map (packet_saying ClientStream name session) (words_of ss)
client_words c session name [] = refl
client_words c session name (says w ∷ ss) = ap (λ (ps : List Packet). packet_saying ClientStream name session w ∷ ps) (client_words c session name ss)
client_words c session name (begins r o ∷ ss) = client_words c session name ss
client_words c session name (appends bytes ∷ ss) = client_words c session name ss
client_words c session name (commits ∷ ss) = client_words c session name ss
client_words c session name (leaves ∷ ss) = client_words c session name ss

-- and so are those of a server, which answers in a call with a stream to the client
server_words : (c session : ℕ) (name : CallName) (ss : List Saying)
    → packets_of (flat_map (answer_item Server c name true) (outs_of session ss)) ≡ map (packet_saying ServerStream name session) (words_of ss)
server_words c session name [] = refl
server_words c session name (says w ∷ ss) = ap (λ (ps : List Packet). packet_saying ServerStream name session w ∷ ps) (server_words c session name ss)
server_words c session name (begins r o ∷ ss) = server_words c session name ss
server_words c session name (appends bytes ∷ ss) = server_words c session name ss
server_words c session name (commits ∷ ss) = server_words c session name ss
server_words c session name (leaves ∷ ss) = server_words c session name ss

as_server : (role : Role) (c : ℕ) (name : CallName) (kind : Kind) (done : Bool) (outs : List Out) → role ≡ Server → streams_down kind ≡ true
    → flat_map (answer_item role c name (messages_go role kind true done)) outs ≡ flat_map (answer_item Server c name true) outs
as_server Server c name kind done outs is down = ap (λ (b : Bool). flat_map (answer_item Server c name (b && true)) outs) down
as_server Client c name kind done outs is down = absurd cc

pub answer_words : (set : Setting) (ds : List Deed) (c session : ℕ) (o : Opening) (ss : List Saying) (a : Answer) → set.role ≡ Server → streams_down o.method.kind ≡ true
    → a.items ≡ outs_of session ss → packets_of (items_of set ds c o a) ≡ map (packet_saying ServerStream o.name session) (words_of ss)
answer_words set ds c session o ss a role down are =
    ap packets_of (as_server set.role c o.name o.method.kind (is_done ds c) a.items role down)
    ∙ (ap (λ (outs : List Out). packets_of (flat_map (answer_item Server c o.name true) outs)) are ∙ server_words c session o.name ss)

-- no message and no store action completes a stream
and_false : (b : Bool) → (b && false) ≡ false
and_false true = refl
and_false false = refl

abbrev completes : ℕ → List Item → Bool
completes c items = list_any (λ item. is_for c item.call && sends_completion item.act) items

pub none_complete : (c call session : ℕ) (name : CallName) (ss : List Saying) → completes c (map (out_item Client call name) (outs_of session ss)) ≡ false
none_complete c call session name [] = refl
none_complete c call session name (says w ∷ ss) = rw (and_false (call == c)) (none_complete c call session name ss)
none_complete c call session name (begins r o ∷ ss) = rw (and_false (call == c)) (none_complete c call session name ss)
none_complete c call session name (appends bytes ∷ ss) = rw (and_false (call == c)) (none_complete c call session name ss)
none_complete c call session name (commits ∷ ss) = rw (and_false (call == c)) (none_complete c call session name ss)
none_complete c call session name (leaves ∷ ss) = rw (and_false (call == c)) (none_complete c call session name ss)

pub undone_more : (c : ℕ) (items more : List Item) → completes c items ≡ false → completes c more ≡ false → completes c (items ++ more) ≡ false
undone_more c items more old new =
    list_any-append (λ item. is_for c item.call && sends_completion item.act) items more ∙ (ap (λ (b : Bool). b || completes c more) old ∙ new)
