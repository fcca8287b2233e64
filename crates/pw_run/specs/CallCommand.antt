-- The words of `call`, and what a run of it read, sent and wrote.
use Rattle.std.specs.Prelude.{◌≡◌, ◌≢◌, ◌⊎◌, ℕ, ◌≤◌, false, if◌then◌else◌, List, [], ◌∷◌, ◌++◌, codes, length, map, string_bytes, Option, Some, None, unwrap_or}
use Rattle.std.specs.Fmt.{decimal}
use Rattle.rpc_ids.specs.declared.method.Kind.{Kind}
use Rattle.rpc_ids.specs.declared.method.Kind.TheVariants.{Unary, ServerStream, ClientStream, Bidi}
use Rattle.rpc_journal.specs.Kinds.{streams_up}
use Rattle.rpc_journal.specs.Lawful.{has_zero}
use Rattle.live_client.specs.declared.ask.LiveAsk.TheVariants as ask
use Rattle.live_client.specs.declared.ask.Opening.{Opening}
use Rattle.live_client.specs.declared.ask.TheConstants.{MAX_MESSAGES}
use Rattle.live_client.specs.Ask.{call_method, live_name}
use Rattle.run_report.specs.Lines.{kind_name}
use Rattle.pw_run.specs.declared.call_words.CallWords.{CallWords}
use Rattle.pw_run.specs.declared.call_words.TheConstants.{MAX_SAID, MAX_WITHIN}
use Rattle.pw_run.specs.declared.client_text.Reported.TheVariants.{Messages}
use Rattle.pw_run.specs.declared.outcome.Outcome.{Outcome}
use Rattle.pw_run.specs.Client.{AsksOverLink}
use Rattle.pw_run.specs.Crew.{DoesNothing}
use Rattle.pw_run.specs.Devices.{Devices}
use Rattle.pw_run.specs.MethodId.{IsId}
use Rattle.pw_run.specs.Payload.{IsPayload}
use Rattle.pw_run.specs.Trailing.{IsUpTo, named_number}

-- these words tell these payloads, one by one
abbrev pub TellEach : List (List ℕ) → List (List ℕ) → Type 0
TellEach [] [] = Unit {0}
TellEach (word ∷ words) (bytes ∷ told) = IsPayload word bytes × TellEach words told
TellEach _ _ = ⊥

-- so many payloads go with a method of this kind: the one of its request, or up to 64 messages
abbrev pub FitsKind : Kind → ℕ → Type 0
FitsKind Unary count = count ≡ 1
FitsKind ServerStream count = count ≡ 1
FitsKind ClientStream count = count ≤ MAX_SAID
FitsKind Bidi count = count ≤ MAX_SAID

-- WHAT STANDS BEHIND THE KIND: payloads, and then, where either is limited, how many messages and how many milliseconds are waited for
abbrev pub behind_kind : List (List ℕ) → Option ℕ → Option ℕ → List (List ℕ)
behind_kind payloads limit within = (payloads ++ named_number (codes "limit") limit) ++ named_number (codes "within") within

pub record IsBehind (kind : Kind) (words payloads : List (List ℕ)) (limit within : Option ℕ) : Type 0 where
  pub spelled : words ≡ behind_kind payloads limit within
  pub told : List (List ℕ)
  pub tell : TellEach payloads told
  pub fits : FitsKind kind (length told)
  pub limited : IsUpTo MAX_MESSAGES limit
  pub timed : IsUpTo MAX_WITHIN within

abbrev pub first_of : List (List ℕ) → List ℕ
first_of [] = []
first_of (bytes ∷ told) = bytes

-- the payload of the request, which is empty where the client streams messages, and those messages
abbrev pub request_of : Kind → List (List ℕ) → List ℕ
request_of kind told = if streams_up kind then [] else first_of told

abbrev pub messages_of : Kind → List (List ℕ) → List (List ℕ)
messages_of kind told = if streams_up kind then told else []

-- THE WORDS ASK FOR THIS CALL. Its service and method are given by their names or ids, of which none is 0; behind the kind stands what
-- is to be said, each payload in lower-case digits, or as a dash where it is empty.
pub record IsCall (words : List (List ℕ)) (opening : Opening) (limit within : Option ℕ) : Type 0 where
  pub path : List ℕ
  pub service : List ℕ
  pub method : List ℕ
  pub rest : List (List ℕ)
  pub payloads : List (List ℕ)
  pub spelled : words ≡ codes "call" ∷ path ∷ service ∷ method ∷ kind_name opening.kind ∷ rest
  pub there : path ≢ []
  pub service_is : IsId service opening.service
  pub method_is : IsId method opening.method
  pub named : has_zero (live_name (call_method opening.service opening.method opening.kind)) ≡ false
  pub behind : IsBehind opening.kind rest payloads limit within
  pub payload : opening.payload ≡ request_of opening.kind behind.told
  pub messages : opening.messages ≡ messages_of opening.kind behind.told

-- the words ask for a call
pub record AsksForCall (words : List (List ℕ)) : Type 0 where
  pub opening : Opening
  pub limit : Option ℕ
  pub within : Option ℕ
  pub is : IsCall words opening limit within

abbrev pub IsNoCall : List (List ℕ) → Type 0
IsNoCall words = (opening : Opening) (limit within : Option ℕ) → IsCall words opening limit within → ⊥

-- these are the words of a call, as the program keeps them
pub record AreCall (words : List (List ℕ)) (c : CallWords) : Type 0 where
  pub service : List ℕ
  pub method : List ℕ
  pub rest : List (List ℕ)
  pub spelled : words ≡ codes "call" ∷ c.path.now ∷ service ∷ method ∷ kind_name c.kind ∷ rest
  pub there : c.path.now ≢ []
  pub service_is : IsId service c.service
  pub method_is : IsId method c.method
  pub named : has_zero (live_name (call_method c.service c.method c.kind)) ≡ false
  pub behind : IsBehind c.kind rest (map string_bytes c.payloads.now) c.limit c.within

-- what the program has checked of them
pub record CanCall (c : CallWords) : Type 0 where
  pub named : has_zero (live_name (call_method c.service c.method c.kind)) ≡ false
  pub told : List (List ℕ)
  pub tell : TellEach (map string_bytes c.payloads.now) told
  pub fits : FitsKind c.kind (length told)
  pub limited : IsUpTo MAX_MESSAGES c.limit
  pub timed : IsUpTo MAX_WITHIN c.within

-- they tell this opening
pub record TellsOpening (c : CallWords) (opening : Opening) : Type 0 where
  pub service : opening.service ≡ c.service
  pub method : opening.method ≡ c.method
  pub kind : opening.kind ≡ c.kind
  pub told : List (List ℕ)
  pub tell : TellEach (map string_bytes c.payloads.now) told
  pub payload : opening.payload ≡ request_of c.kind told
  pub messages : opening.messages ≡ messages_of c.kind told

-- what the client was asked was done over a link, or nothing for want of memory
abbrev pub DidCall : Opening → Option ℕ → Option ℕ → Devices → Devices → Outcome → Type 0
DidCall opening limit within before after outcome =
    AsksOverLink Messages (ask.Call opening (unwrap_or limit MAX_MESSAGES) within) before after outcome ⊎ DoesNothing before after outcome
