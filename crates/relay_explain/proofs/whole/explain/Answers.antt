use Rattle.relay_explain.proofs.Puts.{all, two}
use Rattle.relay_explain.proofs.whole.explain.Goals as goal

pub returns : goal.returns
returns c =
    let cycbuff = rw c.deref.ensures.value at c.put_cycbuff-text.ensures in
    let storage = rw c.deref-2.ensures.value at c.put_storage-text.ensures in
    let relay = rw c.deref-3.ensures.value at c.put_relay-text.ensures in
    all c.whole.result _ _ _ c.new.ensures
    (two (two (two cycbuff storage) relay) c.put_wants.ensures) c.whole.ensures
