use Rattle.std.proofs.Common.{ℕ, List, [], ◌∷◌, ◌++◌, Option, Some, None, take, refl, sym, subst, arith}
use Rattle.hdlc_frame.specs.declared.octets.TheConstants.{FLAG}
use Rattle.hdlc_frame.specs.Encoded.{text_of}
use Rattle.hdlc_frame.specs.Laid.{Lays}
use Rattle.hdlc_frame.proofs.Headers.{frame_parts}
use Rattle.hdlc_frame.proofs.Laying.{lays_behind, lays_none}
use Rattle.hdlc_frame.proofs.encode.put_ui.Goals as goal

pub returns-in_err-behind_header : goal.returns-in_err-behind_header
returns-in_err-behind_header c =
    let old = c.args.out.now in
    let payload = c.args.payload.now in
    let header = take c.spell_header-len.result c.spell_header-len.new.octets in
    let checks = c.to_le_bytes-check.result in
    let flag = FLAG ∷ [] in
    let x2 = flag ++ text_of header in
    let x3 = x2 ++ text_of payload in
    let x4 = x3 ++ text_of checks in
    let parts = frame_parts c.args.address c.check_of.result header payload checks c.spell_header-len.ensures.header c.check_of.ensures c.to_le_bytes-check.ensures in
    let o1 = c.put.new.out in
    let P1 : Option ℕ → Type 0 = λ r. Lays old 0 flag r o1 in
    let s1 = subst P1 c.in_ok-begun.was c.put.ensures in
    let o2 = c.put_text.new.out in
    let s2 = lays_behind old o1 o2 0 c.in_ok-begun.begun flag (text_of header) c.put_text.result None (omega arith) s1 c.in_err-behind_header.was c.put_text.ensures in
    let all = lays_none old o2 0 x4 flag (lays_none old o2 0 x3 (text_of checks) (lays_none old o2 0 x2 (text_of payload) s2)) in
    let P : List ℕ → Type 0 = λ l. Lays old 0 l None o2 in
    rw c.from_residual-in_err-behind_header.ensures (subst P (sym parts) all)

pub returns-in_err-behind_payload : goal.returns-in_err-behind_payload
returns-in_err-behind_payload c =
    let old = c.args.out.now in
    let payload = c.args.payload.now in
    let header = take c.spell_header-len.result c.spell_header-len.new.octets in
    let checks = c.to_le_bytes-check.result in
    let flag = FLAG ∷ [] in
    let x2 = flag ++ text_of header in
    let x3 = x2 ++ text_of payload in
    let x4 = x3 ++ text_of checks in
    let parts = frame_parts c.args.address c.check_of.result header payload checks c.spell_header-len.ensures.header c.check_of.ensures c.to_le_bytes-check.ensures in
    let o1 = c.put.new.out in
    let P1 : Option ℕ → Type 0 = λ r. Lays old 0 flag r o1 in
    let s1 = subst P1 c.in_ok-begun.was c.put.ensures in
    let o2 = c.put_text.new.out in
    let s2 = lays_behind old o1 o2 0 c.in_ok-begun.begun flag (text_of header) c.put_text.result (Some c.in_ok-behind_header.behind_header) (omega arith) s1 c.in_ok-behind_header.was c.put_text.ensures in
    let o3 = c.put_text-2.new.out in
    let s3 = lays_behind old o2 o3 0 c.in_ok-behind_header.behind_header x2 (text_of payload) c.put_text-2.result None (omega arith) s2 c.in_err-behind_payload.was c.put_text-2.ensures in
    let all = lays_none old o3 0 x4 flag (lays_none old o3 0 x3 (text_of checks) s3) in
    let P : List ℕ → Type 0 = λ l. Lays old 0 l None o3 in
    rw c.from_residual-in_err-behind_payload.ensures (subst P (sym parts) all)

pub returns-in_err-behind_check : goal.returns-in_err-behind_check
returns-in_err-behind_check c =
    let old = c.args.out.now in
    let payload = c.args.payload.now in
    let header = take c.spell_header-len.result c.spell_header-len.new.octets in
    let checks = c.to_le_bytes-check.result in
    let flag = FLAG ∷ [] in
    let x2 = flag ++ text_of header in
    let x3 = x2 ++ text_of payload in
    let x4 = x3 ++ text_of checks in
    let parts = frame_parts c.args.address c.check_of.result header payload checks c.spell_header-len.ensures.header c.check_of.ensures c.to_le_bytes-check.ensures in
    let o1 = c.put.new.out in
    let P1 : Option ℕ → Type 0 = λ r. Lays old 0 flag r o1 in
    let s1 = subst P1 c.in_ok-begun.was c.put.ensures in
    let o2 = c.put_text.new.out in
    let s2 = lays_behind old o1 o2 0 c.in_ok-begun.begun flag (text_of header) c.put_text.result (Some c.in_ok-behind_header.behind_header) (omega arith) s1 c.in_ok-behind_header.was c.put_text.ensures in
    let o3 = c.put_text-2.new.out in
    let s3 = lays_behind old o2 o3 0 c.in_ok-behind_header.behind_header x2 (text_of payload) c.put_text-2.result (Some c.in_ok-behind_payload.behind_payload) (omega arith) s2 c.in_ok-behind_payload.was c.put_text-2.ensures in
    let o4 = c.put_text-3.new.out in
    let s4 = lays_behind old o3 o4 0 c.in_ok-behind_payload.behind_payload x3 (text_of checks) c.put_text-3.result None (omega arith) s3 c.in_err-behind_check.was c.put_text-3.ensures in
    let all = lays_none old o4 0 x4 flag s4 in
    let P : List ℕ → Type 0 = λ l. Lays old 0 l None o4 in
    rw c.from_residual-in_err-behind_check.ensures (subst P (sym parts) all)

pub returns : goal.returns
returns c =
    let old = c.args.out.now in
    let payload = c.args.payload.now in
    let header = take c.spell_header-len.result c.spell_header-len.new.octets in
    let checks = c.to_le_bytes-check.result in
    let flag = FLAG ∷ [] in
    let x2 = flag ++ text_of header in
    let x3 = x2 ++ text_of payload in
    let x4 = x3 ++ text_of checks in
    let parts = frame_parts c.args.address c.check_of.result header payload checks c.spell_header-len.ensures.header c.check_of.ensures c.to_le_bytes-check.ensures in
    let o1 = c.put.new.out in
    let P1 : Option ℕ → Type 0 = λ r. Lays old 0 flag r o1 in
    let s1 = subst P1 c.in_ok-begun.was c.put.ensures in
    let o2 = c.put_text.new.out in
    let s2 = lays_behind old o1 o2 0 c.in_ok-begun.begun flag (text_of header) c.put_text.result (Some c.in_ok-behind_header.behind_header) (omega arith) s1 c.in_ok-behind_header.was c.put_text.ensures in
    let o3 = c.put_text-2.new.out in
    let s3 = lays_behind old o2 o3 0 c.in_ok-behind_header.behind_header x2 (text_of payload) c.put_text-2.result (Some c.in_ok-behind_payload.behind_payload) (omega arith) s2 c.in_ok-behind_payload.was c.put_text-2.ensures in
    let o4 = c.put_text-3.new.out in
    let s4 = lays_behind old o3 o4 0 c.in_ok-behind_payload.behind_payload x3 (text_of checks) c.put_text-3.result (Some c.in_ok-behind_check.behind_check) (omega arith) s3 c.in_ok-behind_check.was c.put_text-3.ensures in
    let all = lays_behind old o4 c.put-2.new.out 0 c.in_ok-behind_check.behind_check x4 flag c.put-2.result c.put-2.result (omega arith) s4 refl c.put-2.ensures in
    let P : List ℕ → Type 0 = λ l. Lays old 0 l c.put-2.result c.put-2.new.out in
    subst P (sym parts) all
