use Rattle.relay_explain.specs.Settings.{settings_text}
use Rattle.relay_explain.proofs.Puts.{two}
use Rattle.relay_explain.proofs.settings.put_settings.Goals as goal

pub returns : goal.returns
unfolding settings_text
returns c =
    rw (← c.as_slice-own.ensures, ← c.deref.ensures.value)
    (two (two (two (two (two (two (two (two c.put_setting-text.ensures c.put_number-text.ensures)
    c.put_number-text-2.ensures) c.put_remember-text.ensures) c.put_number-text-3.ensures)
    c.put_sync-text.ensures) c.put_offers-text.ensures) c.put_log-text.ensures)
    c.put_addresses.ensures)
