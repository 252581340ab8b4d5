use Rattle.relay_explain.specs.Found.{found_text}
use Rattle.relay_explain.proofs.Puts.{nothing}
use Rattle.relay_explain.proofs.found.put_lying.Goals as goal

pub returns-in-Fit : goal.returns-in-Fit
unfolding found_text
returns-in-Fit c = rw c.in-Fit.is (nothing _)

pub returns-in-Absent : goal.returns-in-Absent
unfolding found_text
returns-in-Absent c = rw c.in-Absent.is (rw c.as_slice-told.ensures at c.put_line.ensures)

pub returns-in-NoFolder : goal.returns-in-NoFolder
unfolding found_text
returns-in-NoFolder c = rw c.in-NoFolder.is c.put_odd_file.ensures

pub returns-in-Inn : goal.returns-in-Inn
unfolding found_text
returns-in-Inn c = rw c.in-Inn.is c.put_odd_file-in-Inn.ensures

pub returns-in-Other : goal.returns-in-Other
unfolding found_text
returns-in-Other c = rw c.in-Other.is c.put_odd_file-in-Other.ensures

pub returns-in-NotRegular : goal.returns-in-NotRegular
unfolding found_text
returns-in-NotRegular c = rw c.in-NotRegular.is c.put_odd_file-in-NotRegular.ensures

pub returns-in-Unseen : goal.returns-in-Unseen
unfolding found_text
returns-in-Unseen c = rw c.in-Unseen.is c.put_odd_file-in-Unseen.ensures

pub returns-in-Device : goal.returns-in-Device
unfolding found_text
returns-in-Device c = rw c.in-Device.is c.put_device.ensures

pub returns-in-SmallDevice : goal.returns-in-SmallDevice
unfolding found_text
returns-in-SmallDevice c = rw c.in-SmallDevice.is c.put_odd_device.ensures

pub returns-in-OtherDevice : goal.returns-in-OtherDevice
unfolding found_text
returns-in-OtherDevice c = rw c.in-OtherDevice.is c.put_odd_device-in-OtherDevice.ensures
