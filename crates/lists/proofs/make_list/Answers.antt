-- `lists::make_list` meets its contract: what was found decides (`ListLaws`).
-- Assumes nothing.
use Prim.Native.Nat.{ℕ}
use native.Mathlib.Omega.{arith}
use lib.ListN.{replicate, length-replicate}
use Rattle.std.proofs.lemmas.Result.{err_from_is_err_and}
use Rattle.lists.proofs.ListLaws.{refused, is_places, no_room, within, inside, part_is, can_be_written, written}
use Rattle.lists.proofs.make_list.Goals as goal

pub returns-then-list-found : goal.returns-then-list-found
returns-then-list-found c =
    let s = c.args in
    let f = is_places c.find_changes.ensures c.in_ok-found.was in
    no_room s.current.now s.wanted.now s.list.now f.0 f.1 f.2 c.if-list-found.true

pub offset_bounds-notes-found : goal.offset_bounds-notes-found
offset_bounds-notes-found c =
    let s = c.args in
    let f = is_places c.find_changes.ensures c.in_ok-found.was in
    let w = within s.current.now s.wanted.now s.list.now f.0 f.1 f.2 in omega (arith, w.0, w.1)

pub slice_bounds-write_list-count : goal.slice_bounds-write_list-count
slice_bounds-write_list-count c =
    let s = c.args in
    let f = is_places c.find_changes.ensures c.in_ok-found.was in
    let w = within s.current.now s.wanted.now s.list.now f.0 f.1 f.2 in omega (arith, w.0, w.1)

pub slice_bounds-write_list-start : goal.slice_bounds-write_list-start
slice_bounds-write_list-start c =
    let s = c.args in
    let f = is_places c.find_changes.ensures c.in_ok-found.was in
    let w = within s.current.now s.wanted.now s.list.now f.0 f.1 f.2 in omega (arith, w.0, w.1)

pub slice_bounds-write_list-end : goal.slice_bounds-write_list-end
slice_bounds-write_list-end c =
    let s = c.args in
    let f = is_places c.find_changes.ensures c.in_ok-found.was in
    inside s.current.now s.wanted.now s.list.now f.0 f.1 f.2 (replicate 1222 0) f.3 (length-replicate {A = ℕ} 1222 0)

pub write_list-requires : goal.write_list-requires
write_list-requires c =
    let s = c.args in
    let f = is_places c.find_changes.ensures c.in_ok-found.was in
    can_be_written s.current.now s.wanted.now s.list.now f.0 f.1 f.2 (part_is s.current.now s.wanted.now s.list.now f.0 f.1 f.2 (replicate 1222 0) f.3 (length-replicate {A = ℕ} 1222 0)) c.if-list-found.false

pub returns : goal.returns
returns c =
    let s = c.args in
    let f = is_places c.find_changes.ensures c.in_ok-found.was in
    written s.current.now s.wanted.now s.list.now f.0 f.1 f.2 (part_is s.current.now s.wanted.now s.list.now f.0 f.1 f.2 (replicate 1222 0) f.3 (length-replicate {A = ℕ} 1222 0)) c.if-list-found.false c.write_list.ensures

pub returns-in_err-found : goal.returns-in_err-found
returns-in_err-found c =
    let p = err_from_is_err_and c.from_residual.result c.from_residual.ensures.1 in
    rw (p.1, p.2) (refused c.find_changes.ensures c.args.list.now c.in_err-found.was)
