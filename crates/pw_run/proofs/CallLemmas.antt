-- The words of a call tell one opening.
use Rattle.std.proofs.Common.{◌≡◌, ◌⊎◌, ℕ, zero, suc, ◌<◌, ◌≤◌, false, List, [], ◌∷◌, ◌++◌, ◌+◌, All, length, map, take, get_or, string_bytes, String, Global, codes, Option, Some, None, IfNone, unwrap_or, refl, ap, ap₂, sym, ◌∙◌, subst, inl, inr, arith}
use Rattle.std.proofs.lemmas.Bool.{le-ltb, true≢false}
use Rattle.std.proofs.lemmas.List.{map-append, take_more}
use Rattle.std.proofs.lemmas.List.Elements.{All-cons, All-nil}
use Rattle.rpc_ids.specs.declared.method.Kind.{Kind}
use Rattle.rpc_ids.specs.declared.method.Kind.TheVariants.{Unary, ServerStream, ClientStream, Bidi}
use Rattle.rpc_handlers.specs.declared.answer.TheConstants.{MAX_PAYLOAD}
use Rattle.rpc_handlers.specs.Limits.{is_long}
use Rattle.rpc_journal.specs.Kinds.{streams_up}
use Rattle.rpc_journal.specs.Lawful.{has_zero}
use Rattle.live_client.specs.declared.ask.LiveAsk.TheVariants as ask
use Rattle.live_client.specs.declared.ask.Opening.{Opening}
use Rattle.live_client.specs.declared.ask.TheConstants.{MAX_MESSAGES}
use Rattle.live_client.specs.Ask.{CanOpen, call_method, live_name}
use Rattle.run_report.specs.Lines.{kind_name}
use Rattle.pw_run.specs.declared.call_words.CallWords.{CallWords}
use Rattle.pw_run.specs.declared.call_words.TheConstants.{MAX_WITHIN}
use Rattle.pw_run.specs.declared.outcome.Outcome.{Outcome}
use Rattle.pw_run.specs.declared.outcome.Outcome.TheVariants.{BadLine, BadWords, Done, FrameLimit, InputLimit, JournalLimit, LinkFault, NoMemory, NotOkay, SinkFault, SourceFault, StoreFault}
use Rattle.pw_run.specs.CallCommand.{AreCall, AsksForCall, CanCall, DidCall, FitsKind, IsBehind, IsCall, IsNoCall, TellEach, TellsOpening, first_of, messages_of, request_of}
use Rattle.pw_run.specs.declared.client_text.Reported.TheVariants.{Messages}
use Rattle.pw_run.specs.Client.{AsksOverLink}
use Rattle.pw_run.specs.Crew.{DoesNothing}
use Rattle.pw_run.specs.Devices.{Devices}
use Rattle.pw_run.specs.Live.{MakesLinks}
use Rattle.pw_run.specs.MethodId.{IsId}
use Rattle.pw_run.specs.Outcome.{code_of}
use Rattle.pw_run.specs.Payload.{IsPayload, are_digits}
use Rattle.pw_run.specs.Trailing.{EndsOtherwise, IsUpTo, named_number}
use Rattle.pw_run.proofs.MethodIdLemmas.{only_digits, only_name}
use Rattle.pw_run.proofs.PayloadLemmas.{one_payload, other_digits, tell_digits}
use Rattle.pw_run.proofs.TrailingLemmas.{named_same, otherwise}

-- ---- payloads, one by one

pub tell_more : (words told : List (List ℕ)) (word bytes : List ℕ) → TellEach words told → IsPayload word bytes → TellEach (words ++ word ∷ []) (told ++ bytes ∷ [])
tell_more [] [] word bytes tells one = (one, tt)
tell_more [] (b ∷ told) word bytes tells one = absurd tells
tell_more (w ∷ words) [] word bytes tells one = absurd tells
tell_more (w ∷ words) (b ∷ told) word bytes tells one = (tells.0, tell_more words told word bytes tells.1 one)

pub each_same : (words a b : List (List ℕ)) → TellEach words a → TellEach words b → a ≡ b
each_same [] [] [] first second = refl
each_same [] [] (y ∷ b) first second = absurd second
each_same [] (x ∷ a) b first second = absurd first
each_same (word ∷ words) [] b first second = absurd first
each_same (word ∷ words) (x ∷ a) [] first second = absurd second
each_same (word ∷ words) (x ∷ a) (y ∷ b) first second = ap₂ ◌∷◌ (one_payload word x y first.0 second.0) (each_same words a b first.1 second.1)

pub told_length : (words told : List (List ℕ)) → TellEach words told → length told ≡ length words
told_length [] [] tells = refl
told_length [] (b ∷ told) tells = absurd tells
told_length (word ∷ words) [] tells = absurd tells
told_length (word ∷ words) (b ∷ told) tells = let rest = told_length words told tells.1 in omega (arith, rest)

-- one of them
pub word_tells : (ws : List (String Global)) (told : List (List ℕ)) (i : ℕ) (d : String Global) → i < length ws → TellEach (map string_bytes ws) told → (bytes : List ℕ) × IsPayload (string_bytes (get_or ws i d)) bytes
word_tells [] told i d below tells = absurd (omega (arith, below))
word_tells (w ∷ ws) [] i d below tells = absurd tells
word_tells (w ∷ ws) (b ∷ told) zero d below tells = (b, tells.0)
word_tells (w ∷ ws) (b ∷ told) (suc i) d below tells = word_tells ws told i d (omega (arith, below)) tells.1

-- one more
pub tell_next : (ws : List (String Global)) (told : List (List ℕ)) (i : ℕ) (d : String Global) (bytes : List ℕ) → i < length ws → TellEach (map string_bytes (take i ws)) told → IsPayload (string_bytes (get_or ws i d)) bytes
    → TellEach (map string_bytes (take (i + 1) ws)) (told ++ bytes ∷ [])
tell_next ws told i d bytes below tells one =
    subst (λ xs. TellEach (map string_bytes xs) (told ++ bytes ∷ [])) (sym (take_more ws i d below))
    (subst (λ xs. TellEach xs (told ++ bytes ∷ [])) (sym (map-append string_bytes (take i ws) (get_or ws i d ∷ [])))
    (tell_more (map string_bytes (take i ws)) told (string_bytes (get_or ws i d)) bytes tells one))

-- the first, of a method that takes one
pub one_word : (kind : Kind) (count : ℕ) → streams_up kind ≡ false → FitsKind kind count → count ≡ 1
one_word Unary count quiet fits = fits
one_word ServerStream count quiet fits = fits
one_word ClientStream count quiet fits = absurd (true≢false quiet)
one_word Bidi count quiet fits = absurd (true≢false quiet)

pub first_tells : (ws : List (String Global)) (told : List (List ℕ)) (d : String Global) → 0 < length ws → TellEach (map string_bytes ws) told → IsPayload (string_bytes (get_or ws 0 d)) (first_of told)
first_tells [] told d some tells = absurd (omega (arith, some))
first_tells (w ∷ ws) [] d some tells = absurd tells
first_tells (w ∷ ws) (b ∷ told) d some tells = tells.0

-- a word that is no payload ends none of them
no_name : (word : List ℕ) → (word ≡ codes "-" → ⊥) → are_digits word ≡ false → (bytes : List ℕ) → IsPayload word bytes → ⊥
no_name word not_dash none bytes told =
    let digits = other_digits word bytes not_dash told in
    true≢false (sym (tell_digits word bytes digits.0 digits.1 told.octets told.short) ∙ none)

named_among : (front : List (List ℕ)) (name last : List ℕ) (told : List (List ℕ)) → TellEach (front ++ name ∷ last ∷ []) told → (bytes : List ℕ) × IsPayload name bytes
named_among [] name last [] tells = absurd tells
named_among [] name last (b ∷ told) tells = (b, tells.0)
named_among (word ∷ front) name last [] tells = absurd tells
named_among (word ∷ front) name last (b ∷ told) tells = named_among front name last told tells.1

pub tells_otherwise : (name : List ℕ) (words told : List (List ℕ)) → (name ≡ codes "-" → ⊥) → are_digits name ≡ false → TellEach words told → EndsOtherwise name words
tells_otherwise name words told not_dash none tells front last is = let found = named_among front name last told (subst (λ ws. TellEach ws told) is tells) in no_name name not_dash none found.0 found.1

pub no_limit : (words told : List (List ℕ)) → TellEach words told → EndsOtherwise (codes "limit") words
no_limit words told tells = tells_otherwise (codes "limit") words told (λ is. cc is) refl tells

pub no_within : (words told : List (List ℕ)) (limit : Option ℕ) → TellEach words told → EndsOtherwise (codes "within") (words ++ named_number (codes "limit") limit)
no_within words told limit tells = otherwise (codes "within") (codes "limit") words limit (λ is. cc is) (tells_otherwise (codes "within") words told (λ is. cc is) refl tells)

-- what stands behind the kind is one
pub record BehindSame (payloads payloads' : List (List ℕ)) (limit limit' within within' : Option ℕ) : Type 0 where
  pub payloads_are : payloads ≡ payloads'
  pub limit_is : limit ≡ limit'
  pub within_is : within ≡ within'

pub behind_same : (kind kind' : Kind) (words payloads payloads' : List (List ℕ)) (limit limit' within within' : Option ℕ) → IsBehind kind words payloads limit within → IsBehind kind' words payloads' limit' within' → BehindSame payloads payloads' limit limit' within within'
behind_same kind kind' words payloads payloads' limit limit' within within' first second =
    let outer =
    named_same (codes "within") MAX_WITHIN (payloads ++ named_number (codes "limit") limit) (payloads' ++ named_number (codes "limit") limit') within within' (omega arith)
    (no_within payloads first.told limit first.tell) (no_within payloads' second.told limit' second.tell) first.timed second.timed (sym first.spelled ∙ second.spelled) in
    let inner =
    named_same (codes "limit") MAX_MESSAGES payloads payloads' limit limit' (omega arith) (no_limit payloads first.told first.tell) (no_limit payloads' second.told second.tell) first.limited second.limited outer.front_is in
    record { payloads_are = inner.front_is; limit_is = inner.number_is; within_is = outer.number_is }

-- ---- one opening

pub not_long : (payload : List ℕ) → length payload ≤ MAX_PAYLOAD → is_long payload ≡ false
not_long payload short = le-ltb 8000 (length payload) short

first_short : (words told : List (List ℕ)) → TellEach words told → is_long (first_of told) ≡ false
first_short words [] tells = refl
first_short [] (b ∷ told) tells = absurd tells
first_short (word ∷ words) (b ∷ told) tells = not_long b tells.0.short

each_short : (words told : List (List ℕ)) → TellEach words told → All (λ message. is_long message ≡ false) told
each_short words [] tells = All-nil (λ message. is_long message ≡ false)
each_short [] (b ∷ told) tells = absurd tells
each_short (word ∷ words) (b ∷ told) tells = All-cons (λ message. is_long message ≡ false) b told (not_long b tells.0.short) (each_short words told tells.1)

request_short : (kind : Kind) (words told : List (List ℕ)) → TellEach words told → is_long (request_of kind told) ≡ false
request_short Unary words told tells = first_short words told tells
request_short ServerStream words told tells = first_short words told tells
request_short ClientStream words told tells = refl
request_short Bidi words told tells = refl

messages_short : (kind : Kind) (words told : List (List ℕ)) → TellEach words told → All (λ message. is_long message ≡ false) (messages_of kind told)
messages_short Unary words told tells = All-nil (λ message. is_long message ≡ false)
messages_short ServerStream words told tells = All-nil (λ message. is_long message ≡ false)
messages_short ClientStream words told tells = each_short words told tells
messages_short Bidi words told tells = each_short words told tells

pub request_first : (kind : Kind) (told : List (List ℕ)) → streams_up kind ≡ false → request_of kind told ≡ first_of told
request_first Unary told quiet = refl
request_first ServerStream told quiet = refl
request_first ClientStream told quiet = absurd (true≢false quiet)
request_first Bidi told quiet = absurd (true≢false quiet)

pub messages_quiet : (kind : Kind) (told : List (List ℕ)) → streams_up kind ≡ false → messages_of kind told ≡ []
messages_quiet Unary told quiet = refl
messages_quiet ServerStream told quiet = refl
messages_quiet ClientStream told quiet = absurd (true≢false quiet)
messages_quiet Bidi told quiet = absurd (true≢false quiet)

pub can_open : (kind : Kind) (words told : List (List ℕ)) (opening : Opening) → opening.kind ≡ kind → opening.payload ≡ request_of kind told → opening.messages ≡ messages_of kind told → TellEach words told
    → has_zero (live_name (call_method opening.service opening.method opening.kind)) ≡ false → CanOpen opening
can_open kind words told opening same payload messages tells named = record {
  named = named;
  short = ap is_long payload ∙ request_short kind words told tells;
  all_short = subst (All (λ message. is_long message ≡ false)) (sym messages) (messages_short kind words told tells);
  quiet = λ quiet. messages ∙ messages_quiet kind told (sym (ap streams_up same) ∙ quiet);
}

pub can_call : (words : List (List ℕ)) (c : CallWords) → AreCall words c → CanCall c
can_call words c are = record { named = are.named; told = are.behind.told; tell = are.behind.tell; fits = are.behind.fits; limited = are.behind.limited; timed = are.behind.timed }

pub call_asked : (words : List (List ℕ)) (c : CallWords) → AreCall words c → AsksForCall words
call_asked words c are = record {
  opening = record { service = c.service; method = c.method; kind = c.kind; payload = request_of c.kind are.behind.told; messages = messages_of c.kind are.behind.told };
  limit = c.limit;
  within = c.within;
  is = record {
    path = c.path.now;
    service = are.service;
    method = are.method;
    rest = are.rest;
    payloads = map string_bytes c.payloads.now;
    spelled = are.spelled;
    there = are.there;
    service_is = are.service_is;
    method_is = are.method_is;
    named = are.named;
    behind = are.behind;
    payload = refl;
    messages = refl;
  };
}

pub call_there : (words : List (List ℕ)) (c : CallWords) → AreCall words c → IsNoCall words → ⊥
call_there words c are none = let asked = call_asked words c are in none asked.opening asked.limit asked.within asked.is

pub call_links : (words : List (List ℕ)) (c : CallWords) → AreCall words c → (MakesLinks words → ⊥) → ⊥
call_links words c are none = none (inr (inr (inr (call_asked words c are))))

first_letter : List ℕ → ℕ
first_letter [] = 0
first_letter (letter ∷ letters) = letter

kind_same : (a b : Kind) → kind_name a ≡ kind_name b → a ≡ b
unfolding first_letter
kind_same Unary Unary is = refl
kind_same ServerStream ServerStream is = refl
kind_same ClientStream ClientStream is = refl
kind_same Bidi Bidi is = refl
kind_same a b is = let e = ap first_letter is in absurd (omega (arith, e))

pub limit_fits : (limit : Option ℕ) → IsUpTo MAX_MESSAGES limit → (0 < unwrap_or limit MAX_MESSAGES) × (unwrap_or limit MAX_MESSAGES ≤ MAX_MESSAGES)
limit_fits None fits = (omega arith, omega arith)
limit_fits (Some n) fits = (omega (arith, fits.0), fits.1)

pub opening_same : (a b : Opening) → a.service ≡ b.service → a.method ≡ b.method → a.kind ≡ b.kind → a.payload ≡ b.payload → a.messages ≡ b.messages → a ≡ b
opening_same a b service method kind payload messages =
    ap (λ x. record { service = x; method = a.method; kind = a.kind; payload = a.payload; messages = a.messages }) service
    ∙ (ap (λ x. record { service = b.service; method = x; kind = a.kind; payload = a.payload; messages = a.messages }) method
    ∙ (ap (λ x. record { service = b.service; method = b.method; kind = x; payload = a.payload; messages = a.messages }) kind
    ∙ (ap (λ x. record { service = b.service; method = b.method; kind = b.kind; payload = x; messages = a.messages }) payload
    ∙ ap (λ x. record { service = b.service; method = b.method; kind = b.kind; payload = b.payload; messages = x }) messages)))

-- ---- words that are none

pub no_service : (path service method kind : List ℕ) (rest : List (List ℕ)) → ((id : ℕ) → IsId service id → ⊥) → IsNoCall (codes "call" ∷ path ∷ service ∷ method ∷ kind ∷ rest)
no_service path service method kind rest none opening limit within is = none opening.service (subst (λ word. IsId word opening.service) (cc (sym is.spelled)) is.service_is)

pub no_method : (path service method kind : List ℕ) (rest : List (List ℕ)) → ((id : ℕ) → IsId method id → ⊥) → IsNoCall (codes "call" ∷ path ∷ service ∷ method ∷ kind ∷ rest)
no_method path service method kind rest none opening limit within is = none opening.method (subst (λ word. IsId word opening.method) (cc (sym is.spelled)) is.method_is)

pub no_behind : (path service method word : List ℕ) (rest : List (List ℕ)) (kind : Kind) → word ≡ kind_name kind → ((payloads : List (List ℕ)) (limit within : Option ℕ) → IsBehind kind rest payloads limit within → ⊥)
    → IsNoCall (codes "call" ∷ path ∷ service ∷ method ∷ word ∷ rest)
no_behind path service method word rest kind named none opening limit within is =
    let same : kind_name opening.kind ≡ kind_name kind = cc (is.spelled, named) in
    let rests : is.rest ≡ rest = cc (sym is.spelled) in
    none is.payloads limit within (subst (λ k. IsBehind k rest is.payloads limit within) (kind_same opening.kind kind same) (subst (λ words. IsBehind opening.kind words is.payloads limit within) rests is.behind))

pub if_none : {A X : Type 0} (o : Option A) → X → IfNone o X
if_none None x = x
if_none (Some a) x = tt

-- a word tells one id
id_same : (word : List ℕ) (a b : ℕ) → IsId word a → IsId word b → a ≡ b
id_same word a b (inl first) second = cc (sym first.2 ∙ only_digits word first.0 b first.1 second)
id_same word a b (inr first) second = cc (sym (ap Some first.1) ∙ only_name word b first.0 second)

-- what the words tell is this
pub record CallTells (c : CallWords) (opening : Opening) (limit within : Option ℕ) : Type 0 where
  pub tells : TellsOpening c opening
  pub limit_is : limit ≡ c.limit
  pub within_is : within ≡ c.within

pub call_tells : (words : List (List ℕ)) (c : CallWords) (opening : Opening) (limit within : Option ℕ) → AreCall words c → IsCall words opening limit within → CallTells c opening limit within
call_tells words c opening limit within are is =
    let same : codes "call" ∷ c.path.now ∷ are.service ∷ are.method ∷ kind_name c.kind ∷ are.rest ≡ codes "call" ∷ is.path ∷ is.service ∷ is.method ∷ kind_name opening.kind ∷ is.rest = sym are.spelled ∙ is.spelled in
    let kind : opening.kind ≡ c.kind = kind_same opening.kind c.kind (cc same) in
    let rest : are.rest ≡ is.rest = cc same in
    let behind = behind_same opening.kind c.kind is.rest is.payloads (map string_bytes c.payloads.now) limit c.limit within c.within is.behind (subst (λ words. IsBehind c.kind words (map string_bytes c.payloads.now) c.limit c.within) rest are.behind) in
    record {
      tells = record {
        service = id_same are.service opening.service c.service (subst (λ word. IsId word opening.service) (cc same) is.service_is) are.service_is;
        method = id_same are.method opening.method c.method (subst (λ word. IsId word opening.method) (cc same) is.method_is) are.method_is;
        kind = kind;
        told = is.behind.told;
        tell = subst (λ words. TellEach words is.behind.told) behind.payloads_are is.behind.tell;
        payload = is.payload ∙ ap (λ k. request_of k is.behind.told) kind;
        messages = is.messages ∙ ap (λ k. messages_of k is.behind.told) kind;
      };
      limit_is = behind.limit_is;
      within_is = behind.within_is;
    }

-- an outcome with the status of bad words is that one
pub bad_words_of : (outcome : Outcome) → code_of outcome ≡ code_of BadWords → outcome ≡ BadWords
bad_words_of BadWords is = refl
bad_words_of Done is = absurd cc
bad_words_of NoMemory is = absurd cc
bad_words_of SourceFault is = absurd cc
bad_words_of SinkFault is = absurd cc
bad_words_of StoreFault is = absurd cc
bad_words_of LinkFault is = absurd cc
bad_words_of BadLine is = absurd cc
bad_words_of InputLimit is = absurd cc
bad_words_of JournalLimit is = absurd cc
bad_words_of FrameLimit is = absurd cc
bad_words_of NotOkay is = absurd cc

-- a call with the same limits
pub called_by : (opening : Opening) (limit limit' within within' : Option ℕ) (before after : Devices) (outcome : Outcome) → limit ≡ limit' → within ≡ within' → DidCall opening limit' within' before after outcome
    → DidCall opening limit within before after outcome
called_by opening limit limit' within within' before after outcome same same' did =
    subst (λ l. DidCall opening l within before after outcome) (sym same) (subst (λ w. DidCall opening limit' w before after outcome) (sym same') did)

-- the call that was asked over a link is the one that the words tell
pub did_call : (opening other : Opening) (limit within : Option ℕ) (most : ℕ) (before after : Devices) (outcome : Outcome) → opening ≡ other → most ≡ unwrap_or limit MAX_MESSAGES
    → AsksOverLink Messages (ask.Call opening most within) before after outcome ⊎ DoesNothing before after outcome → DidCall other limit within before after outcome
did_call opening other limit within most before after outcome same is did =
    subst (λ o. DidCall o limit within before after outcome) same
    (subst (λ n. AsksOverLink Messages (ask.Call opening n within) before after outcome ⊎ DoesNothing before after outcome) is did)
