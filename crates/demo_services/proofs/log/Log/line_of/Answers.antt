use Rattle.std.proofs.Common.{◌≡◌, List, ◌++◌, sym, ap, ◌∙◌, subst}
use Rattle.std.proofs.lemmas.Result.{IfOk-weaker}
use Rattle.token_text.specs.Arguments.{Argument}
use Rattle.token_text.specs.Book.{Entry, IsMessage}
use Rattle.token_text.specs.Printing.{text_of}
use Rattle.demo_services.specs.Log.{log_book, log_line, untold}
use Rattle.demo_services.proofs.LogLemmas.{line_of_bytes, line_of_text}
use Rattle.demo_services.proofs.log.Log.line_of.Goals as goal

pub returns-in-Ok : goal.returns-in-Ok
returns-in-Ok c =
    let r = c.in-Ok.ensures.ok in
    let message = c.args.message.now in
    let is : IsMessage log_book message r.0 r.1 = subst (λ (book : List Entry). IsMessage book message r.0 r.1) c.self.invariant r.2 in
    r.3 ∙ (ap (λ l. l ++ text_of r.0.parts r.1) c.new-line.ensures.items ∙ sym (line_of_text message r.0 r.1 is))

pub returns-in-Err-Short : goal.returns-in-Err-Short
returns-in-Err-Short c =
    let message = c.args.message.now in
    let none : (format : Entry) (args : List Argument) → IsMessage log_book message format args → ⊥ =
    λ format args is. absurd (let e = c.in-Err-Short.ensures.only format args (subst (λ (book : List Entry). IsMessage book message format args) (sym c.self.invariant) is) in cc) in
    IfOk-weaker c.untold.result (λ line. line.items ≡ untold message) (λ line. line.items ≡ log_line message) (λ line e. e ∙ sym (line_of_bytes message none)) c.untold.ensures

pub returns-in-Err-Unknown : goal.returns-in-Err-Unknown
returns-in-Err-Unknown c =
    let message = c.args.message.now in
    let none : (format : Entry) (args : List Argument) → IsMessage log_book message format args → ⊥ =
    λ format args is. absurd (let e = c.in-Err-Unknown.ensures.only format args (subst (λ (book : List Entry). IsMessage book message format args) (sym c.self.invariant) is) in cc) in
    IfOk-weaker c.untold-in-Err-Unknown.result (λ line. line.items ≡ untold message) (λ line. line.items ≡ log_line message) (λ line e. e ∙ sym (line_of_bytes message none)) c.untold-in-Err-Unknown.ensures

pub returns : goal.returns
returns c =
    let message = c.args.message.now in
    let none : (format : Entry) (args : List Argument) → IsMessage log_book message format args → ⊥ =
    λ format args is. absurd (let e = c.in-Err-Wrong.ensures.only format args (subst (λ (book : List Entry). IsMessage book message format args) (sym c.self.invariant) is) in cc) in
    IfOk-weaker c.untold-in-Err-Wrong.result (λ line. line.items ≡ untold message) (λ line. line.items ≡ log_line message) (λ line e. e ∙ sym (line_of_bytes message none)) c.untold-in-Err-Wrong.ensures
