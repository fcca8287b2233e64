-- The two ends of a ring, and answers that are handed on.
use Rattle.std.proofs.Common.{◌≡◌, true, false, Result, Ok, Err, IfErr, IfOk, OnOk, is_ok, refl, ◌∙◌}
use Rattle.rtrb.specs.declared.consumer.Consumer.{Consumer}
use Rattle.rtrb.specs.declared.producer.Producer.{Producer}
use Rattle.rtrb.specs.Ring.{SameConsumer, SameProducer}

module _ {T A P : Type 0} where
  pub ring_self : (a : Producer T A P) → SameProducer a a
  ring_self a = ((refl, refl, refl, refl), refl)

  pub ring_trans : (a b c : Producer T A P) → SameProducer a b → SameProducer b c → SameProducer a c
  ring_trans a b c p q = ((q.0.0 ∙ p.0.0, q.0.1 ∙ p.0.1, q.0.2 ∙ p.0.2, q.0.3 ∙ p.0.3), q.1 ∙ p.1)

  pub end_self : (a : Consumer T A P) → SameConsumer a a
  end_self a = ((refl, refl, refl, refl), refl)

  pub end_trans : (a b c : Consumer T A P) → SameConsumer a b → SameConsumer b c → SameConsumer a c
  end_trans a b c p q = ((q.0.0 ∙ p.0.0, q.0.1 ∙ p.0.1, q.0.2 ∙ p.0.2, q.0.3 ∙ p.0.3), q.1 ∙ p.1)

pub when_ok : {A E X : Type 0} (result : Result A E) → is_ok result ≡ true → OnOk result X → X
when_ok (Ok a) is x = x
when_ok (Err e) is x = absurd (cc is)

pub when_err : {A E : Type 0} (P : E → Type 0) (result : Result A E) → is_ok result ≡ false → IfErr result P → (e : E) × P e
when_err P (Ok a) is x = absurd (cc is)
when_err P (Err e) is x = (e, x)

pub if_ok_map : {A E : Type 0} (P Q : A → Type 0) (result : Result A E) → ((a : A) → P a → Q a) → IfOk result P → IfOk result Q
if_ok_map P Q (Ok a) f x = f a x
if_ok_map P Q (Err e) f x = tt
