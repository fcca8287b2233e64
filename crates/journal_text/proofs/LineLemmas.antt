-- A line is read field by field.
use Rattle.std.proofs.Common.{◌≡◌, ℕ, ◌^◌, ◌<◌, Bool, true, false, not, List, [], ◌∷◌, ◌++◌, codes, Option, Some, None, Ok, refl, sym, ◌∙◌, ap, arith}
use Rattle.std.specs.Fmt.{decimal}
use Rattle.std.specs.Str.{bytes_eq}
use Rattle.std.proofs.lemmas.Slice.Eq.{bytes_eq-Decides}
use Rattle.hex.specs.Hex.{IsBytes, encode_lower}
use Rattle.rpc_packet.specs.declared.call_name.CallName.{CallName}
use Rattle.rpc_packet.specs.declared.owned.Packet.{Packet}
use Rattle.rpc_packet.specs.declared.packet_type.PacketType.{PacketType}
use Rattle.rpc_packet.specs.declared.packet_type.PacketType.TheVariants.{Request, Response, ClientStream, ClientError, ServerError, ServerStream, Completion}
use Rattle.rpc_packet.specs.Message.{Message, message_of}
use Rattle.rpc_packet.specs.PacketType.{type_number, type_of}
use Rattle.rpc_packet.specs.Reading.{packet_of}
use Rattle.rpc_packet.specs.Spelling.{spelling_of}
use Rattle.rpc_handlers.specs.declared.answer.Answer.{Answer}
use Rattle.rpc_journal.specs.declared.entry.EntryKind.{EntryKind}
use Rattle.rpc_journal.specs.declared.entry.EntryKind.TheVariants.{Arrive, Invoke, Say, Done, Start, Finish, Replace, Cancel, Tick, Flush, EndIn, Halt, Close}
use Rattle.journal_text.specs.Finds.{Finds}
use Rattle.journal_text.specs.Reading.{IsAnswer, IsKind, IsSpelled}
use Rattle.journal_text.proofs.FindLemmas.{finds_none, finds_some, none_is}

heads : (a b : ℕ) (xs ys : List ℕ) → a ∷ xs ≡ b ∷ ys → a ≡ b
heads a b xs ys same = cc

tails : (a b : ℕ) (xs ys : List ℕ) → a ∷ xs ≡ b ∷ ys → xs ≡ ys
tails a b xs ys same = cc

-- what a line of a Finish says
record FinishParts (text : List ℕ) (kind : EntryKind) : Type 0 where
  call : ℕ
  answer : Answer
  rest : List ℕ
  is : kind ≡ Finish call answer
  spelled : text ≡ decimal call ++ 32 ∷ rest
  fits : call < 2 ^ 32
  says : IsAnswer rest answer

finish_parts : (text : List ℕ) (kind : EntryKind) → IsKind (codes "finish " ++ text) kind → FinishParts text kind
finish_parts text (Finish c a) is = record {
  call = c;
  answer = a;
  rest = is.rest;
  is = refl;
  spelled = cc (is.spelled);
  fits = is.fits;
  says = is.answer;
}
finish_parts text (Arrive p) is = absurd (omega (arith, heads 102 97 _ _ is.0))
finish_parts text (Start c) is = absurd (omega (arith, heads 102 115 _ _ is.0))
finish_parts text (Cancel c) is = absurd (omega (arith, heads 102 99 _ _ is.0))
finish_parts text (Tick t) is = absurd (omega (arith, heads 102 116 _ _ is.0))
finish_parts text Flush is = absurd (omega (arith, heads 105 108 _ _ (tails 102 102 _ _ is)))
finish_parts text EndIn is = absurd (omega (arith, heads 102 101 _ _ is))
finish_parts text (Invoke p m) is = absurd is
finish_parts text (Say c out) is = absurd is
finish_parts text (Done c) is = absurd is
finish_parts text (Replace c m) is = absurd is
finish_parts text (Halt why) is = absurd is
finish_parts text (Close channel) is = absurd (omega (arith, heads 102 99 _ _ is.0))

-- the number in front of the first blank, and what stands behind it
abbrev IsNumbered : List ℕ → ℕ → List ℕ → Type 0
IsNumbered text number rest = (n : ℕ) (more : List ℕ) → n < 2 ^ 32 → text ≡ decimal n ++ 32 ∷ more → (number ≡ n) × (rest ≡ more)

-- behind the call stands no answer
pub finish_unread :
    (text rest : List ℕ) (call : ℕ) (found : Option Answer) → IsNumbered text call rest → Finds found (IsAnswer rest) →
    found ≡ None → Finds None (IsKind (codes "finish " ++ text))
finish_unread text rest call found only finds is =
    let here : Finds None (IsAnswer rest) = rw is at finds in
    finds_none (IsKind (codes "finish " ++ text)) (λ kind so.
    let parts = finish_parts text kind so in
    none_is (IsAnswer rest) parts.answer here (rw (only parts.call parts.rest parts.fits parts.spelled).1 parts.says))

-- a call and an answer
pub finish_read :
    (text rest : List ℕ) (call : ℕ) (answer : Answer) (found : Option Answer) → text ≡ decimal call ++ 32 ∷ rest →
    call < 2 ^ 32 → IsNumbered text call rest → Finds found (IsAnswer rest) → found ≡ Some answer →
    Finds (Some (Finish call answer)) (IsKind (codes "finish " ++ text))
finish_read text rest call answer found spelled fits only finds is =
    let here : Finds (Some answer) (IsAnswer rest) = rw is at finds in
    finds_some (IsKind (codes "finish " ++ text)) (Finish call answer)
    (record { rest = rest; spelled = ap (λ bytes. codes "finish " ++ bytes) spelled; fits = fits; answer = here.some })
    (λ kind so.
    let parts = finish_parts text kind so in
    let same = only parts.call parts.rest parts.fits parts.spelled in
    let answers : answer ≡ parts.answer = cc (here.only parts.answer (rw same.1 parts.says)) in
    rw (parts.is, same.0, answers) refl)

-- what a line of an Arrive says
record ArriveParts (text : List ℕ) (kind : EntryKind) : Type 0 where
  packet : Packet
  is : kind ≡ Arrive packet
  spelled : text ≡ encode_lower (spelling_of (message_of packet))
  one : IsSpelled packet

arrive_parts : (text : List ℕ) (kind : EntryKind) → IsKind (codes "arrive " ++ text) kind → ArriveParts text kind
arrive_parts text (Arrive p) is = record {
  packet = p;
  is = refl;
  spelled = cc (is.0);
  one = is.1;
}
arrive_parts text (Finish c a) is = absurd (omega (arith, heads 97 102 _ _ is.spelled))
arrive_parts text (Start c) is = absurd (omega (arith, heads 97 115 _ _ is.0))
arrive_parts text (Cancel c) is = absurd (omega (arith, heads 97 99 _ _ is.0))
arrive_parts text (Tick t) is = absurd (omega (arith, heads 97 116 _ _ is.0))
arrive_parts text Flush is = absurd (omega (arith, heads 97 102 _ _ is))
arrive_parts text EndIn is = absurd (omega (arith, heads 97 101 _ _ is))
arrive_parts text (Invoke p m) is = absurd is
arrive_parts text (Say c out) is = absurd is
arrive_parts text (Done c) is = absurd is
arrive_parts text (Replace c m) is = absurd is
arrive_parts text (Halt why) is = absurd is
arrive_parts text (Close channel) is = absurd (omega (arith, heads 97 99 _ _ is.0))

-- a type is known by its number, and a packet by what it says
known_type : (t : PacketType) → type_of (type_number t) ≡ Some t
known_type Request = refl
known_type Response = refl
known_type ClientStream = refl
known_type ClientError = refl
known_type ServerError = refl
known_type ServerStream = refl
known_type Completion = refl

same_type : (t u : PacketType) → type_number t ≡ type_number u → t ≡ u
same_type t u same = cc (sym (known_type t) ∙ ap type_of same ∙ known_type u)

made_same : (t u : PacketType) (m n : CallName) (xs ys : List ℕ) (a b : ℕ) → t ≡ u → m ≡ n → xs ≡ ys → a ≡ b
    → ◌≡◌ {A = Packet} (record { ptype = t; name = m; payload = xs; status = a })
    (record { ptype = u; name = n; payload = ys; status = b })
made_same t u m n xs ys a b ptype name payload status = rw (ptype, name, payload, status) refl

same_packet : (p q : Packet) → message_of p ≡ message_of q → p ≡ q
same_packet p q same =
    made_same p.ptype q.ptype p.name q.name p.payload q.payload p.status q.status
    (same_type p.ptype q.ptype (ap (λ (m : Message). m.ptype) same)) (ap (λ (m : Message). m.name) same)
    (ap (λ (m : Message). m.payload) same) (ap (λ (m : Message). m.status) same)

-- a packet that is spelled as these bytes
pub arrive_read : (text bytes : List ℕ) (packet : Packet) → text ≡ encode_lower bytes → IsBytes bytes
    → ((other : List ℕ) → IsBytes other → text ≡ encode_lower other → bytes ≡ other)
    → bytes ≡ spelling_of (message_of packet) → packet_of (spelling_of (message_of packet)) ≡ Ok (message_of packet)
    → Finds (Some (Arrive packet)) (IsKind (codes "arrive " ++ text))
arrive_read text bytes packet digits octets only spelled again =
    finds_some (IsKind (codes "arrive " ++ text)) (Arrive packet) (
      ap (λ xs. codes "arrive " ++ xs) (digits ∙ ap encode_lower spelled),
      record
          { bytes = rw spelled at octets; again = again },
    )
    (λ kind so.
    let parts = arrive_parts text kind so in
    let same : spelling_of (message_of packet) ≡ spelling_of (message_of parts.packet) = sym spelled ∙ only _ parts.one.bytes
    parts.spelled in
    let said : Ok (message_of packet) ≡ Ok (message_of parts.packet) = sym again ∙ ap packet_of same ∙ parts.one.again in
    rw (parts.is, same_packet packet parts.packet (cc said)) refl)

not_false : (b : Bool) → false ≡ not b → b ≡ true
not_false true same = refl
not_false false same = cc

-- what was written behind nothing, and isn't other than the bytes
pub spelled_same :
    (bytes written before spelling : List ℕ) → false ≡ not (bytes_eq written bytes) → before ≡ [] →
    written ≡ before ++ spelling → bytes ≡ spelling
spelled_same bytes written before spelling same none is =
    let equal : bytes_eq written bytes ≡ true = not_false (bytes_eq written bytes) same in
    sym ((bytes_eq-Decides written bytes).0 equal) ∙ (is ∙ rw none refl)
